use Rattle.std.proofs.Common.{drop}
use Rattle.mos_machines.specs.Small.{AreSmallItems}
use Rattle.world_stage.proofs.limits.items_are_small.Given as goal

abbrev pub invariant-items : goal.invariant-items
invariant-items l = AreSmallItems (drop l.item-index l.items) → AreSmallItems l.items
