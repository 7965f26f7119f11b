use Rattle.mos_values.proofs.Counts.{no_headers, headers_step}
use Rattle.mos_values.proofs.sizes.patches_units.Goals as goal

pub loop-header-init : goal.loop-header-init
loop-header-init c = no_headers

pub loop-header-preserved : goal.loop-header-preserved
loop-header-preserved c = headers_step c.args.headers.now c.loop-header.header-index c.header-item.result c.loop-header.count c.patch_units.result c.plus-count.result c.loop-header-test.true c.header-item.is c.loop-header.invariant c.patch_units.ensures c.plus-count.ensures
