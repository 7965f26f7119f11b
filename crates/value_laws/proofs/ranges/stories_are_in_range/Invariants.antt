use Rattle.std.proofs.Common.{take}
use Rattle.value_laws.specs.Ranges.{AreStoriesInRange}
use Rattle.value_laws.proofs.ranges.stories_are_in_range.Given as goal

abbrev pub invariant-loop-story : goal.invariant-loop-story
invariant-loop-story l = AreStoriesInRange (take l.story-index l.stories)
