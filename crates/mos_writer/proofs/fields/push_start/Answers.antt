use Rattle.std.proofs.Common.{ℕ, List, ◌++◌, ap, ◌∙◌}
use Rattle.mos_writer.proofs.EncodedLemmas.{three, start_is}
use Rattle.mos_writer.proofs.fields.push_start.Goals as goal

pub returns : goal.returns
returns c = three _ _ _ _ _ _ _ c.in_ok-push_ascii.ensures c.in_ok-push_word.ensures c.in_ok-push_ascii-2.ensures ∙ ap (λ (ys : List ℕ). c.args.out.now.items ++ ys) (start_is c.args.name.now)
