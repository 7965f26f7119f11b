use Rattle.std.proofs.Common.{refl}
use Rattle.mos_fields.specs.declared.field.Field.TheVariants as fields
use Rattle.mos_values.specs.Views.{story_events}
use Rattle.mos_values.proofs.Counts.{count_field}
use Rattle.mos_values.proofs.sizes.story_units.Goals as goal

pub returns : goal.returns
returns c = count_field fields.StoryTag (story_events c.args.story.now) (story_events c.args.story.now) c.story_inside.result c.element_units.result refl c.story_inside.ensures c.element_units.ensures
