use Rattle.std.proofs.Common.{take}
use Rattle.std.specs.List.{Contains}
use Rattle.mos_values.specs.Distinct.{story_ids}
use Rattle.mos_values.proofs.ids.is_story_among.Given as goal

abbrev pub invariant-loop-story : goal.invariant-loop-story
invariant-loop-story l = Contains (story_ids (take l.story-index l.stories)) l.id → ⊥
