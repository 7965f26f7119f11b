use Rattle.std.proofs.Common.{length}
use Rattle.mos_cursor.proofs.Typed.{RawsLeft}
use Rattle.mos_cursor.proofs.numbers.unreads_of.Given as goal

abbrev pub invariant-next : goal.invariant-next
invariant-next l = RawsLeft l.fn.texts l.unreads l.rest.items

abbrev pub decreases-next : goal.decreases-next
decreases-next l = length l.rest.items
