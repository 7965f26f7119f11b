use Rattle.std.proofs.Common.{take}
use Rattle.value_facts.specs.FitValues.{AreFitGroups}
use Rattle.value_facts.proofs.orders.groups_fit.Given as goal

abbrev pub invariant-loop-group : goal.invariant-loop-group
invariant-loop-group l = AreFitGroups (take l.group-index l.groups)
