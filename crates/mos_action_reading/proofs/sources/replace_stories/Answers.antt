use Rattle.mos_fields.specs.declared.operation.Operation.TheVariants as operations
use Rattle.mos_tables.specs.declared.aim.Aim.TheVariants as aims
use Rattle.mos_tables.specs.declared.table.Table.TheVariants as tables
use Rattle.mos_action_reading.proofs.sources.replace_stories.Goals as goal

pub stories_in-requires : goal.stories_in-requires
stories_in-requires c = (tables.Source operations.Replace aims.AtStory, c.in_ok-slots.ensures.fit)
