use Rattle.std.proofs.Common.{◌≡◌, ◌++◌, ◌≤◌, ◌-◌, length, drop}
use Rattle.mos_fields.specs.Escapes.{escaped}
use Rattle.mos_writer.specs.Encoded.{in_bytes}
use Rattle.mos_writer.proofs.bytes.push_escaped.Given as goal

abbrev pub invariant-four : goal.invariant-four
invariant-four l = record {
  within : l.at ≤ length l.units;
  bytes : l.out.items ++ in_bytes (escaped (drop l.at l.units)) ≡ l.initial.out.items ++ in_bytes (escaped l.units);
}

abbrev pub decreases-four : goal.decreases-four
decreases-four l = length l.units - l.at
