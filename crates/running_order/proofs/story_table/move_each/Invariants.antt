use Rattle.std.proofs.Common.{◌≡◌, take, drop}
use Rattle.running_order.proofs.Lists.{placed}
use Rattle.running_order.proofs.story_table.move_each.Given as goal

abbrev pub invariant-loop-k : goal.invariant-loop-k
invariant-loop-k l = l.map.entries ≡ placed (take l.was l.initial.map.entries) (drop l.was l.initial.map.entries) l.at l.k
