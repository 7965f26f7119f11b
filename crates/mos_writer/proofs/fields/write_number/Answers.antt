use Rattle.std.proofs.Common.{ℕ, List, ◌++◌, ap, ◌∙◌, arith}
use Rattle.std.specs.Fmt.{decimal}
use Rattle.mos_values.proofs.Simple.{simple_decimal}
use Rattle.mos_writer.specs.Encoded.{word_bytes}
use Rattle.mos_writer.proofs.EncodedLemmas.{three, simple_is_written}
use Rattle.mos_writer.proofs.fields.write_number.Goals as goal

pub returns : goal.returns
unfolding word_bytes
returns c = three _ _ _ _ _ _ _ c.in_ok-open.ensures c.in_ok-push_decimal.ensures c.in_ok-close.ensures ∙ ap (λ (ys : List ℕ). c.args.out.now.items ++ ys) (simple_is_written c.args.field (decimal c.args.n) (simple_decimal c.args.n (omega arith)))
