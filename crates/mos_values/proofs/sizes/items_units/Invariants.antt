use Rattle.std.proofs.Common.{◌≡◌, take}
use Rattle.mos_values.specs.Units.{capped, units_in}
use Rattle.mos_values.specs.Views.{items_events}
use Rattle.mos_values.proofs.sizes.items_units.Given as goal

abbrev pub invariant-loop-item : goal.invariant-loop-item
invariant-loop-item l = l.count ≡ capped (units_in (items_events (take l.item-index l.items)))
