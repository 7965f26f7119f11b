use Rattle.mos_values.specs.Sound.{IsSoundStory}
use Rattle.mos_soundness.proofs.Walks.{GoesOn}
use Rattle.mos_soundness.proofs.orders.are_sound_stories.Given as goal

abbrev pub invariant-loop-story : goal.invariant-loop-story
invariant-loop-story l = GoesOn IsSoundStory l.story-index l.stories
