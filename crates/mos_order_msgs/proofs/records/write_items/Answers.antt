use Rattle.mos_order_msgs.proofs.Lists.{items_start, items_step}
use Rattle.mos_order_msgs.proofs.records.write_items.Goals as goal

pub loop-item-init : goal.loop-item-init
loop-item-init c = items_start c.args.out.now.items

pub loop-item-preserved : goal.loop-item-preserved
loop-item-preserved c = items_step c.args.items.now c.loop-item.item-index c.item-item.result c.args.out.now.items c.loop-item.out.items c.write_item.new.out.items c.loop-item-test.true c.item-item.is c.loop-item.invariant c.in_ok-write_item.ensures
