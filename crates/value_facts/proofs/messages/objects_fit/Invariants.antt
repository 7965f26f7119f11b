use Rattle.std.proofs.Common.{take}
use Rattle.value_facts.specs.FitValues.{AreFitObjects}
use Rattle.value_facts.proofs.messages.objects_fit.Given as goal

abbrev pub invariant-loop-object : goal.invariant-loop-object
invariant-loop-object l = AreFitObjects (take l.object-index l.objects)
