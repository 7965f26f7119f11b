use Rattle.mos_writer.proofs.EncodedLemmas.{units_start, units_step}
use Rattle.mos_writer.proofs.bytes.push_units.Goals as goal

pub loop-unit-init : goal.loop-unit-init
loop-unit-init c = units_start c.args.out.now.items

pub loop-unit-preserved : goal.loop-unit-preserved
loop-unit-preserved c = units_step c.args.units.now c.loop-unit.unit-index c.args.out.now.items c.loop-unit.out.items c.push_unit.new.out.items c.loop-unit-test.true c.loop-unit.invariant c.in_ok-push_unit.ensures
