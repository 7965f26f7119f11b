use Rattle.std.proofs.Common.{take}
use Rattle.value_laws.specs.Ranges.{AreItemsInRange}
use Rattle.value_laws.proofs.ranges.items_are_in_range.Given as goal

abbrev pub invariant-loop-item : goal.invariant-loop-item
invariant-loop-item l = AreItemsInRange (take l.item-index l.items)
