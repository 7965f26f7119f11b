use Rattle.value_laws.specs.Ranges.{IsObjectInRange}
use Rattle.value_laws.proofs.RangeLemmas.{all_step}
use Rattle.value_laws.proofs.ranges.objects_are_in_range.Goals as goal

pub loop-object-init : goal.loop-object-init
loop-object-init c = tt

pub loop-object-preserved : goal.loop-object-preserved
loop-object-preserved c = all_step IsObjectInRange c.args.objects.now c.loop-object.object-index c.object-item.result c.loop-object-test.true c.object-item.is c.loop-object.invariant c.object_is_in_range.ensures
