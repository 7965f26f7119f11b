use Rattle.std.proofs.Common.{◌≡◌, take}
use Rattle.running_order.proofs.story_table.table_of.Given as goal

abbrev pub invariant-loop-story : goal.invariant-loop-story
invariant-loop-story l = l.table ≡ (take l.story-index l.stories)
