use Rattle.mos_order_msgs.proofs.Lists.{headers_start, headers_step}
use Rattle.mos_order_msgs.proofs.records.write_headers.Goals as goal

pub loop-header-init : goal.loop-header-init
loop-header-init c = headers_start c.args.out.now.items

pub loop-header-preserved : goal.loop-header-preserved
loop-header-preserved c = headers_step c.args.headers.now c.loop-header.header-index c.header-item.result c.args.out.now.items c.loop-header.out.items c.write_patch.new.out.items c.loop-header-test.true c.header-item.is c.loop-header.invariant c.in_ok-write_patch.ensures
