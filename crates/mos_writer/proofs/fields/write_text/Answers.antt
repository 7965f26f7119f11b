use Rattle.std.proofs.Common.{ℕ, List, ◌++◌, ap, ◌∙◌}
use Rattle.mos_writer.specs.Encoded.{word_bytes}
use Rattle.mos_writer.proofs.EncodedLemmas.{three, must_is}
use Rattle.mos_writer.proofs.fields.write_text.Goals as goal

pub returns : goal.returns
unfolding word_bytes
returns c = three _ _ _ _ _ _ _ c.in_ok-open.ensures c.in_ok-push_text.ensures c.in_ok-close.ensures ∙ ap (λ (ys : List ℕ). c.args.out.now.items ++ ys) (must_is c.args.field c.args.text.now)
