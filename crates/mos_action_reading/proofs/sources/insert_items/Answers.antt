use Rattle.mos_fields.specs.declared.operation.Operation.TheVariants as operations
use Rattle.mos_tables.specs.declared.aim.Aim.TheVariants as aims
use Rattle.mos_tables.specs.declared.table.Table.TheVariants as tables
use Rattle.mos_action_reading.proofs.sources.insert_items.Goals as goal

pub items_in-requires : goal.items_in-requires
items_in-requires c = (tables.Source operations.Insert aims.AtItem, c.in_ok-slots.ensures.fit)
