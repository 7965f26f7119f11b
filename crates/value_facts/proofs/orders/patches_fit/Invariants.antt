use Rattle.std.proofs.Common.{take}
use Rattle.value_facts.specs.FitValues.{AreFitPatches}
use Rattle.value_facts.proofs.orders.patches_fit.Given as goal

abbrev pub invariant-loop-patch : goal.invariant-loop-patch
invariant-loop-patch l = AreFitPatches (take l.patch-index l.patches)
