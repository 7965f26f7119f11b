use Rattle.mos_object_msgs.proofs.Lists.{objects_start, objects_step}
use Rattle.mos_object_msgs.proofs.messages.write_objects.Goals as goal

pub loop-object-init : goal.loop-object-init
loop-object-init c = objects_start c.args.out.now.items

pub loop-object-preserved : goal.loop-object-preserved
loop-object-preserved c = objects_step c.args.objects.now c.loop-object.object-index c.object-item.result c.args.out.now.items c.loop-object.out.items c.write_mos_obj.new.out.items c.loop-object-test.true c.object-item.is c.loop-object.invariant c.in_ok-write_mos_obj.ensures
