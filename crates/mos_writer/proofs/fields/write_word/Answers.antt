use Rattle.std.proofs.Common.{ℕ, List, ◌++◌, ap, refl, ◌∙◌}
use Rattle.mos_writer.specs.Encoded.{word_bytes}
use Rattle.mos_writer.proofs.EncodedLemmas.{three}
use Rattle.mos_writer.proofs.fields.write_word.Goals as goal

pub returns : goal.returns
unfolding word_bytes
returns c = three _ _ _ _ _ _ _ c.in_ok-open.ensures c.in_ok-push_word.ensures c.in_ok-close.ensures ∙ ap (λ (ys : List ℕ). c.args.out.now.items ++ ys) (refl)
