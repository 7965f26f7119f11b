use Rattle.std.proofs.Common.{length, arith}
use Rattle.mos_forms.proofs.TailLemmas.{ends_skipped}
use Rattle.mos_forms.proofs.tail.skip_to_end.Goals as goal

pub returns-then-text-back-clause-same : goal.returns-then-text-back-clause-same
returns-then-text-back-clause-same c = ends_skipped c.args.name.now c.args.text.now c.args.from (length c.args.text.now) c.requires (omega arith)
    (λ k a b l. absurd (omega (arith, b, l, c.if-text-back.true)))

pub returns-else-text-back-clause-same : goal.returns-else-text-back-clause-same
returns-else-text-back-clause-same c = ends_skipped c.args.name.now c.args.text.now c.args.from c.next_end.result (omega (arith, c.next_end.ensures.onward, c.max.ensures)) c.next_end.ensures.within
    (λ k a b l. c.next_end.ensures.none k (omega (arith, a, l, c.max.ensures)) b)
