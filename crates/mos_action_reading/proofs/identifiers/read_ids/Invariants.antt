use Rattle.std.proofs.Common.{length}
use Rattle.mos_cursor.proofs.Read.{ReadSoFar}
use Rattle.mos_action_reading.specs.Identifiers.{HoldsId, text_of}
use Rattle.mos_action_reading.proofs.identifiers.read_ids.Given as goal

abbrev pub invariant-next : goal.invariant-next
invariant-next l = ReadSoFar (λ x. x) text_of HoldsId l.fn.leaves l.ids l.rest.items

abbrev pub decreases-next : goal.decreases-next
decreases-next l = length l.rest.items
