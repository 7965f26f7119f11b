use Rattle.mos_fields.specs.declared.field.Field.TheVariants as fields
use Rattle.mos_values.specs.Pieces.{pieces_events}
use Rattle.mos_values.specs.Views.{item_events}
use Rattle.mos_values.proofs.Counts.{count_field}
use Rattle.mos_values.proofs.sizes.item_units.Goals as goal

pub returns : goal.returns
returns c = count_field fields.ItemTag (pieces_events c.item_pieces.result) (item_events c.args.item.now) c.pieces_units.result c.element_units.result c.item_pieces.ensures c.pieces_units.ensures c.element_units.ensures
