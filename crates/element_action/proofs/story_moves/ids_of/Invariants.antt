use Rattle.std.proofs.Common.{◌≡◌, ◌++◌, drop}
use Rattle.mos_values.specs.Distinct.{story_ids}
use Rattle.element_action.proofs.story_moves.ids_of.Given as goal

abbrev pub invariant-loop-i : goal.invariant-loop-i
invariant-loop-i l = l.ids ++ drop l.i (story_ids l.order.stories) ≡ story_ids l.order.stories
