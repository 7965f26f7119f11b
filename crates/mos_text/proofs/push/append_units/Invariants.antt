use Rattle.std.proofs.Common.{◌≡◌, ◌++◌, take}
use Rattle.mos_fields.specs.Characters.{bytes_of}
use Rattle.mos_text.specs.Escaping.{escaped_units}
use Rattle.mos_text.proofs.push.append_units.Given as goal

abbrev pub invariant-loop-unit : goal.invariant-loop-unit
invariant-loop-unit l = l.out.items ≡ l.initial.out.items ++ bytes_of (escaped_units (take l.unit-index l.units))
