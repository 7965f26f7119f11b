use Rattle.std.proofs.Common.{◌≡◌, take}
use Rattle.mos_values.specs.Distinct.{story_ids}
use Rattle.element_action.proofs.sources.ids_of_stories.Given as goal

abbrev pub invariant-loop-story : goal.invariant-loop-story
invariant-loop-story l = l.ids ≡ story_ids (take l.story-index l.stories)
