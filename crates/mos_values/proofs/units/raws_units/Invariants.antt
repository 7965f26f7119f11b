use Rattle.std.proofs.Common.{◌≡◌, take}
use Rattle.mos_values.specs.Parts.{raws}
use Rattle.mos_values.specs.Units.{capped, units_in}
use Rattle.mos_values.proofs.units.raws_units.Given as goal

abbrev pub invariant-loop-raw : goal.invariant-loop-raw
invariant-loop-raw l = l.count ≡ capped (units_in (raws l.fn.field (take l.raw-index l.list)))
