use Rattle.std.proofs.Common.{ℕ, List, ◌++◌, ap, ◌∙◌}
use Rattle.mos_writer.proofs.EncodedLemmas.{two, decimal_one, decimal_more}
use Rattle.mos_writer.proofs.values.+push_decimal.Goals as goal

pub returns-in_ok-push_ascii : goal.returns-in_ok-push_ascii
returns-in_ok-push_ascii t c = c.in_ok-push_ascii.ensures ∙ ap (λ (ys : List ℕ). c.args.out.now.items ++ ys) (decimal_one c.args.n c.if-n-lt10.true)

pub returns-in_ok-push_ascii-2 : goal.returns-in_ok-push_ascii-2
returns-in_ok-push_ascii-2 t c = two _ _ _ _ _ c.in_ok-push_decimal.ensures c.in_ok-push_ascii-2.ensures ∙ ap (λ (ys : List ℕ). c.args.out.now.items ++ ys) (decimal_more c.args.n c.if-n-lt10.false c.ranges.n.fits)
