use Rattle.mos_values.proofs.Counts.{no_raws, raws_step}
use Rattle.mos_values.proofs.units.raws_units.Goals as goal

pub loop-raw-init : goal.loop-raw-init
loop-raw-init c = no_raws c.args.field

pub loop-raw-preserved : goal.loop-raw-preserved
loop-raw-preserved c = raws_step c.args.field c.args.list.now c.loop-raw.raw-index c.raw-item.result c.loop-raw.count c.raw_units.result c.plus-count.result c.loop-raw-test.true c.raw-item.is c.loop-raw.invariant c.raw_units.ensures c.plus-count.ensures
