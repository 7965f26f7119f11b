use Rattle.std.proofs.Common.{refl}
use Rattle.mos_fields.specs.declared.field.Field.TheVariants as fields
use Rattle.mos_values.specs.Views.{story_events}
use Rattle.mos_writer.proofs.EncodedLemmas.{field_written}
use Rattle.mos_order_msgs.proofs.records.write_story.Goals as goal

pub returns : goal.returns
returns c = field_written fields.StoryTag (story_events c.args.story.now) (story_events c.args.story.now) c.args.out.now.items _ _ _ refl c.in_ok-open.ensures c.in_ok-write_story_inside.ensures c.in_ok-close.ensures
