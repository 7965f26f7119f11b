use Rattle.std.proofs.Common.{sym, ◌∙◌}
use Rattle.script_numbers.proofs.RowLemmas.{among-next, among-here, among-end}
use Rattle.script_numbers.proofs.stories.is_among.Goals as goal

pub loop-id-preserved : goal.loop-id-preserved
loop-id-preserved c =
    c.loop-id.invariant ∙ among-next c.args.story.now c.id-item.result c.args.ids.now c.loop-id.id-index c.loop-id-test.true c.id-item.is (sym c.is_same.ensures ∙ c.if-is_same.false)

pub returns-then-is_same : goal.returns-then-is_same
returns-then-is_same c =
    sym (c.loop-id.invariant ∙ among-here c.args.story.now c.id-item.result c.args.ids.now c.loop-id.id-index c.loop-id-test.true c.id-item.is (sym c.is_same.ensures ∙ c.if-is_same.true))

pub returns : goal.returns
returns c = sym (c.loop-id.invariant ∙ among-end c.args.story.now c.args.ids.now c.loop-id.id-index c.loop-id-test.false)
