use Rattle.mos_writer.proofs.EncodedLemmas.{raws_start, raws_step}
use Rattle.mos_writer.proofs.fields.write_raws.Goals as goal

pub loop-raw-init : goal.loop-raw-init
loop-raw-init c = raws_start c.args.field c.args.out.now.items

pub loop-raw-preserved : goal.loop-raw-preserved
loop-raw-preserved c = raws_step c.args.field c.args.list.now c.loop-raw.raw-index c.raw-item.result c.args.out.now.items c.loop-raw.out.items c.write_raw.new.out.items c.loop-raw-test.true c.raw-item.is c.loop-raw.invariant c.in_ok-write_raw.ensures
