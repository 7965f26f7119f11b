use Rattle.mos_order_msgs.proofs.Lists.{groups_start, groups_step}
use Rattle.mos_order_msgs.proofs.records.write_groups.Goals as goal

pub loop-group-init : goal.loop-group-init
loop-group-init c = groups_start c.args.out.now.items

pub loop-group-preserved : goal.loop-group-preserved
loop-group-preserved c = groups_step c.args.groups.now c.loop-group.group-index c.group-item.result c.args.out.now.items c.loop-group.out.items c.write_group.new.out.items c.loop-group-test.true c.group-item.is c.loop-group.invariant c.in_ok-write_group.ensures
