use Rattle.std.proofs.Common.{◌≡◌, length}
use Rattle.mos_fields.specs.Forms.{behind_white}
use Rattle.mos_forms.proofs.chars.behind_white.Given as goal

abbrev pub invariant-loop-rest : goal.invariant-loop-rest
invariant-loop-rest l = behind_white l.rest ≡ behind_white l.chars

abbrev pub decreases-loop-rest : goal.decreases-loop-rest
decreases-loop-rest l = length l.rest
