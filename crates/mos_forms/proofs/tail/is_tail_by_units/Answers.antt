use Rattle.std.proofs.Common.{sym, ◌∙◌}
use Rattle.mos_forms.proofs.TailLemmas.{ends_here, goes_on}
use Rattle.mos_forms.proofs.tail.is_tail_by_units.Goals as goal

pub returns-then-ends_at : goal.returns-then-ends_at
returns-then-ends_at c =
    sym (ends_here c.args.name.now c.args.text.now c.loop-end.end c.loop-end-test.true (sym c.ends_at.ensures ∙ c.if-ends_at.true))
    ∙ c.loop-end.invariant.1

pub loop-end-preserved : goal.loop-end-preserved
loop-end-preserved c = (
  c.skip_to_end-end-in-loop-end.ensures.within,
  sym c.skip_to_end-end-in-loop-end.ensures.same
      ∙ (sym (goes_on c.args.name.now c.args.text.now c.loop-end.end c.loop-end-test.true (sym c.ends_at.ensures ∙ c.if-ends_at.false))
      ∙ c.loop-end.invariant.1),
)
