use Rattle.std.proofs.Common.{ℕ, List, ◌++◌, ap, ◌∙◌}
use Rattle.mos_writer.proofs.EncodedLemmas.{two, opens_is}
use Rattle.mos_writer.proofs.fields.push_front.Goals as goal

pub returns : goal.returns
returns c = two _ _ _ _ _ c.in_ok-push_ascii.ensures c.in_ok-push_word.ensures ∙ ap (λ (ys : List ℕ). c.args.out.now.items ++ ys) (opens_is c.args.name.now)
