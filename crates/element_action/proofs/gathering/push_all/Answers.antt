use Rattle.std.proofs.Common.{◌++◌, ◌∙◌}
use Rattle.element_action.proofs.GatherLemmas.{all_next, all_end}
use Rattle.element_action.proofs.gathering.push_all.Goals as goal

pub loop-id-preserved : goal.loop-id-preserved
loop-id-preserved c =
    all_next c.args.ids.now c.loop-id.id-index c.id-item.result c.loop-id.list c.push_copy.new.list c.loop-id-test.true c.id-item.is c.in_ok-push_copy.ensures ∙ c.loop-id.invariant

pub returns : goal.returns
returns c = all_end c.args.ids.now c.loop-id.id-index c.loop-id.list (c.args.list.now ++ c.args.ids.now) c.loop-id-test.false c.loop-id.invariant
