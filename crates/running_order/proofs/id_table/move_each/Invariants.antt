use Rattle.std.proofs.Common.{◌≡◌, take, drop}
use Rattle.running_order.proofs.Lists.{placed}
use Rattle.running_order.proofs.id_table.move_each.Given as goal

abbrev pub invariant-loop-k : goal.invariant-loop-k
invariant-loop-k l = l.set.keys ≡ placed (take l.was l.initial.set.keys) (drop l.was l.initial.set.keys) l.at l.k
