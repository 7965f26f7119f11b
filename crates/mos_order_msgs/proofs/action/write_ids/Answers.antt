use Rattle.std.proofs.Common.{◌≡◌, ◌++◌, ap, ◌∙◌}
use Rattle.mos_order_msgs.proofs.Lists.{ids_start, ids_step}
use Rattle.mos_order_msgs.proofs.action.write_ids.Goals as goal

pub loop-id-init : goal.loop-id-init
loop-id-init c = ids_start c.args.field c.args.out.now.items

pub loop-id-preserved : goal.loop-id-preserved
loop-id-preserved c = ids_step c.args.field c.as_slice-id-items.result.now c.loop-id.id-index c.id-item.result c.args.out.now.items c.loop-id.out.items c.write_opt_id.new.out.items c.loop-id-test.true c.id-item.is c.loop-id.invariant c.in_ok-write_opt_id.ensures
