use Rattle.std.proofs.Common.{◌≡◌, take}
use Rattle.mos_values.specs.Units.{capped, units_in}
use Rattle.mos_values.specs.Views.{objects_events}
use Rattle.mos_values.proofs.sizes.objects_units.Given as goal

abbrev pub invariant-loop-object : goal.invariant-loop-object
invariant-loop-object l = l.count ≡ capped (units_in (objects_events (take l.object-index l.objects)))
