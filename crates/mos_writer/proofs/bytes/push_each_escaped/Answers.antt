use Rattle.mos_writer.proofs.EncodedLemmas.{escaped_start, escaped_step}
use Rattle.mos_writer.proofs.bytes.push_each_escaped.Goals as goal

pub loop-unit-init : goal.loop-unit-init
loop-unit-init c = escaped_start c.args.out.now.items

pub loop-unit-preserved : goal.loop-unit-preserved
loop-unit-preserved c = escaped_step c.args.units.now c.loop-unit.unit-index c.args.out.now.items c.loop-unit.out.items c.push_escape.new.out.items c.loop-unit-test.true c.loop-unit.invariant c.in_ok-push_escape.ensures
