use Rattle.std.proofs.Common.{ℕ, List, ◌++◌, ap, ◌∙◌}
use Rattle.mos_fields.specs.Values.{time_text}
use Rattle.mos_values.proofs.Simple.{simple_time}
use Rattle.mos_writer.specs.Encoded.{word_bytes}
use Rattle.mos_writer.proofs.EncodedLemmas.{three, simple_is_written}
use Rattle.mos_writer.proofs.fields.write_time.Goals as goal

pub returns : goal.returns
unfolding word_bytes
returns c = three _ _ _ _ _ _ _ c.in_ok-open.ensures c.in_ok-push_time.ensures c.in_ok-close.ensures ∙ ap (λ (ys : List ℕ). c.args.out.now.items ++ ys) (simple_is_written c.args.field (time_text c.args.time.now) (simple_time c.args.time.now))
