use Rattle.std.proofs.Common.{◌≡◌, length}
use Rattle.mos_fields.specs.Forms.{shortest_digits}
use Rattle.mos_forms.proofs.chars.without_zeros.Given as goal

abbrev pub invariant-loop-rest : goal.invariant-loop-rest
invariant-loop-rest l = shortest_digits l.rest ≡ shortest_digits l.chars

abbrev pub decreases-loop-rest : goal.decreases-loop-rest
decreases-loop-rest l = length l.rest
