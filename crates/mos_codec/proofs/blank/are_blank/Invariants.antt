use Rattle.std.proofs.Common.{◌≡◌, length}
use Rattle.mos_codec.specs.Decoding.{are_blank}
use Rattle.mos_codec.proofs.blank.are_blank.Given as goal

abbrev pub invariant-loop-rest : goal.invariant-loop-rest
invariant-loop-rest l = are_blank l.rest ≡ are_blank l.units

abbrev pub decreases-loop-rest : goal.decreases-loop-rest
decreases-loop-rest l = length l.rest
