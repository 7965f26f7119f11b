use Rattle.std.proofs.Common.{◌≡◌, ◌++◌, take}
use Rattle.mos_fields.specs.Escapes.{escaped}
use Rattle.mos_writer.specs.Encoded.{in_bytes}
use Rattle.mos_writer.proofs.bytes.push_each_escaped.Given as goal

abbrev pub invariant-loop-unit : goal.invariant-loop-unit
invariant-loop-unit l = l.out.items ≡ l.initial.out.items ++ in_bytes (escaped (take l.unit-index l.units))
