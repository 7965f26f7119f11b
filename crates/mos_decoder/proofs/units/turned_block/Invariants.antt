use Rattle.std.proofs.Common.{◌≡◌, length}
use Rattle.mos_decoder.proofs.PairLemmas.{WereTurned}
use Rattle.mos_decoder.proofs.units.turned_block.Given as goal

abbrev pub invariant-loop-k : goal.invariant-loop-k
invariant-loop-k l = (length l.units ≡ 32) × WereTurned l.bytes l.at l.units l.k
