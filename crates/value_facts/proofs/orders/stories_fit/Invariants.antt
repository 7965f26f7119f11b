use Rattle.std.proofs.Common.{take}
use Rattle.value_facts.specs.FitValues.{AreFitStories}
use Rattle.value_facts.proofs.orders.stories_fit.Given as goal

abbrev pub invariant-loop-story : goal.invariant-loop-story
invariant-loop-story l = AreFitStories (take l.story-index l.stories)
