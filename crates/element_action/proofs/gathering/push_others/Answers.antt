use Rattle.std.proofs.Common.{◌++◌, ◌∙◌}
use Rattle.mos_edits.specs.KeyedLists.{without}
use Rattle.element_action.proofs.GatherLemmas.{others_next, others_end}
use Rattle.element_action.proofs.gathering.push_others.Goals as goal

pub loop-id-preserved : goal.loop-id-preserved
loop-id-preserved c =
    others_next c.args.out.now c.args.ids.now c.loop-id.id-index c.id-item.result c.loop-id.list c.push_other.new.list c.loop-id-test.true c.id-item.is c.in_ok-push_other.ensures ∙ c.loop-id.invariant

pub returns : goal.returns
returns c = others_end c.args.out.now c.args.ids.now c.loop-id.id-index c.loop-id.list (c.args.list.now ++ without (λ x. x) c.args.out.now c.args.ids.now) c.loop-id-test.false c.loop-id.invariant
