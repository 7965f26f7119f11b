use Rattle.std.proofs.Common.{◌≡◌, take}
use Rattle.mos_values.specs.Units.{capped, units_in}
use Rattle.mos_values.specs.Views.{headers_events}
use Rattle.mos_values.proofs.sizes.patches_units.Given as goal

abbrev pub invariant-loop-header : goal.invariant-loop-header
invariant-loop-header l = l.count ≡ capped (units_in (headers_events (take l.header-index l.headers)))
