use Rattle.std.proofs.Common.{drop}
use Rattle.mos_machines.specs.Small.{AreSmallItems}
use Rattle.ncs_core.proofs.limits.have_small_numbers.Given as goal

abbrev pub invariant-items : goal.invariant-items
invariant-items l = AreSmallItems (drop l.item-index l.items) → AreSmallItems l.items
