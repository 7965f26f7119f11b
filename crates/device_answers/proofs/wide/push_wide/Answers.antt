use Rattle.device_answers.proofs.WideLemmas.{wide_start, wide_step}
use Rattle.device_answers.proofs.wide.push_wide.Goals as goal

pub loop-byte-init : goal.loop-byte-init
loop-byte-init c = wide_start c.args.out.now.items

pub loop-byte-preserved : goal.loop-byte-preserved
loop-byte-preserved c = wide_step c.args.bytes.now c.loop-byte.byte-index c.args.out.now.items c.loop-byte.out.items c.push_unit.new.out.items c.loop-byte-test.true c.loop-byte.invariant c.in_ok-push_unit.ensures
