use Rattle.std.proofs.Common.{◌≡◌, length, take}
use Rattle.mos_fields.specs.Escapes.{escaped}
use Rattle.mos_values.specs.Units.{capped}
use Rattle.status_board.proofs.sizes.escaped_units.Given as goal

abbrev pub invariant-loop-unit : goal.invariant-loop-unit
invariant-loop-unit l = l.count ≡ capped (length (escaped (take l.unit-index l.units)))
