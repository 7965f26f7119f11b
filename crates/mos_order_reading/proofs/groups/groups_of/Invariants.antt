use Rattle.std.proofs.Common.{length}
use Rattle.mos_order_reading.proofs.Loops.{GroupsSoFar}
use Rattle.mos_order_reading.proofs.groups.groups_of.Given as goal

abbrev pub invariant-next : goal.invariant-next
invariant-next l = GroupsSoFar l.initial.cursor l.groups l.cursor

abbrev pub decreases-next : goal.decreases-next
decreases-next l = length l.cursor
