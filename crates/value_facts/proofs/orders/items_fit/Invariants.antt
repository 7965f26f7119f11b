use Rattle.std.proofs.Common.{take}
use Rattle.value_facts.specs.FitValues.{AreFitItems}
use Rattle.value_facts.proofs.orders.items_fit.Given as goal

abbrev pub invariant-loop-item : goal.invariant-loop-item
invariant-loop-item l = AreFitItems (take l.item-index l.items)
