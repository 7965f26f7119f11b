use Rattle.std.proofs.Common.{refl, ap}
use Rattle.mos_fields.specs.declared.field.Field.TheVariants as fields
use Rattle.mos_values.specs.MessageViews.{target_story}
use Rattle.mos_values.specs.Views.{items_events, stories_events}
use Rattle.mos_writer.proofs.EncodedLemmas.{field_written}
use Rattle.mos_order_msgs.proofs.action.write_target_story.Goals as goal

pub returns : goal.returns
unfolding target_story
returns c = field_written fields.ElementTarget _ _ c.args.out.now.items _ _ _ refl c.in_ok-open.ensures c.in_ok-write_opt_id.ensures c.in_ok-close.ensures
