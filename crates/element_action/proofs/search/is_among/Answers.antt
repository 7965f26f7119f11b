use Rattle.std.proofs.Common.{sym, ◌∙◌}
use Rattle.element_action.proofs.SourceLemmas.{among_next, among_here, among_end}
use Rattle.element_action.proofs.search.is_among.Goals as goal

pub loop-other-preserved : goal.loop-other-preserved
loop-other-preserved c =
    c.loop-other.invariant
    ∙ among_next c.args.id.now c.other-item.result c.args.ids.now c.loop-other.other-index c.loop-other-test.true c.other-item.is (sym c.is_same.ensures ∙ c.if-is_same.false)

pub returns-then-is_same : goal.returns-then-is_same
returns-then-is_same c =
    sym (c.loop-other.invariant
    ∙ among_here c.args.id.now c.other-item.result c.args.ids.now c.loop-other.other-index c.loop-other-test.true c.other-item.is (sym c.is_same.ensures ∙ c.if-is_same.true))

pub returns : goal.returns
returns c = sym (c.loop-other.invariant ∙ among_end c.args.id.now c.args.ids.now c.loop-other.other-index c.loop-other-test.false)
