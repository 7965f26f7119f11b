use Rattle.std.proofs.Common.{◌≡◌, ◌++◌, take}
use Rattle.mos_values.specs.Views.{stories_events}
use Rattle.mos_writer.specs.Encoded.{encoded}
use Rattle.mos_order_msgs.proofs.records.write_stories.Given as goal

abbrev pub invariant-loop-story : goal.invariant-loop-story
invariant-loop-story l = l.out.items ≡ l.initial.out.items ++ encoded (stories_events (take l.story-index l.stories))
