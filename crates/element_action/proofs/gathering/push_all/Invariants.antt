use Rattle.std.proofs.Common.{◌≡◌, ◌++◌, drop}
use Rattle.element_action.proofs.gathering.push_all.Given as goal

abbrev pub invariant-loop-id : goal.invariant-loop-id
invariant-loop-id l = l.list ++ drop l.id-index l.ids ≡ l.initial.list ++ l.ids
