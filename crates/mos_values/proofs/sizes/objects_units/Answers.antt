use Rattle.mos_values.proofs.Counts.{no_objects, objects_step}
use Rattle.mos_values.proofs.sizes.objects_units.Goals as goal

pub loop-object-init : goal.loop-object-init
loop-object-init c = no_objects

pub loop-object-preserved : goal.loop-object-preserved
loop-object-preserved c = objects_step c.args.objects.now c.loop-object.object-index c.object-item.result c.loop-object.count c.object_units.result c.plus-count.result c.loop-object-test.true c.object-item.is c.loop-object.invariant c.object_units.ensures c.plus-count.ensures
