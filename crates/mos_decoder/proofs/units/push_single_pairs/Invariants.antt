use Rattle.std.proofs.Common.{◌≡◌, ◌++◌, ◌≤◌, drop, length, ◌-◌}
use Rattle.mos_fields.specs.Characters.{units_in}
use Rattle.mos_decoder.specs.Bytes.{odd_in}
use Rattle.mos_decoder.proofs.units.push_single_pairs.Given as goal

abbrev pub invariant-pair : goal.invariant-pair
invariant-pair l = record {
  within : l.at ≤ length l.bytes;
  units : l.units.items ++ units_in (drop l.at l.bytes) ≡ l.initial.units.items ++ units_in l.bytes;
  odd : odd_in (drop l.at l.bytes) ≡ odd_in l.bytes;
}

abbrev pub decreases-pair : goal.decreases-pair
decreases-pair l = length l.bytes - l.at
