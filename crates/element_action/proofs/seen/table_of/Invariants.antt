use Rattle.std.proofs.Common.{◌≡◌, take}
use Rattle.element_action.proofs.seen.table_of.Given as goal

abbrev pub invariant-loop-id : goal.invariant-loop-id
invariant-loop-id l = l.table ≡ take l.id-index l.ids
