use Rattle.std.proofs.Common.{◌≡◌, length}
use Rattle.mos_decoder.specs.Bytes.{AreTurned}
use Rattle.mos_decoder.proofs.PairLemmas.{AreUnits}
use Rattle.mos_decoder.proofs.units.block_units.Given as goal

abbrev pub invariant-loop-k : goal.invariant-loop-k
invariant-loop-k l = record {
  len : length l.units ≡ 32;
  before : AreUnits l.bytes l.at l.units l.k;
  behind : AreTurned l.bytes l.at l.units l.k;
}
