use Rattle.std.proofs.Common.{◌≡◌, ◌≤◌, length}
use Rattle.mos_fields.specs.Forms.{before_white}
use Rattle.mos_forms.proofs.chars.before_white.Given as goal

abbrev pub invariant-loop-rest : goal.invariant-loop-rest
invariant-loop-rest l = (before_white l.rest ≡ before_white l.chars) × (length l.rest ≤ length l.chars)

abbrev pub decreases-loop-rest : goal.decreases-loop-rest
decreases-loop-rest l = length l.rest
