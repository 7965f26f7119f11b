use Rattle.std.proofs.Common.{take}
use Rattle.value_laws.specs.Ranges.{AreObjectsInRange}
use Rattle.value_laws.proofs.ranges.objects_are_in_range.Given as goal

abbrev pub invariant-loop-object : goal.invariant-loop-object
invariant-loop-object l = AreObjectsInRange (take l.object-index l.objects)
