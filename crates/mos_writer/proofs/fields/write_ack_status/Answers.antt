use Rattle.std.proofs.Common.{◌≡◌, ap, ◌∙◌}
use Rattle.mos_fields.specs.Fields.{name_of}
use Rattle.mos_values.specs.Views.{ack_status_text}
use Rattle.mos_values.proofs.Simple.{simple_ack_status}
use Rattle.mos_values.specs.Parts.{must}
use Rattle.mos_writer.specs.Encoded.{word_bytes, encoded}
use Rattle.mos_writer.proofs.EncodedLemmas.{simple_is_written, on_ok_as}
use Rattle.mos_writer.proofs.fields.write_ack_status.Goals as goal

pub returns : goal.returns
returns c =
    let same : word_bytes (name_of c.args.field) c.ack_status_word.result.now ≡ encoded (must c.args.field (ack_status_text c.args.status)) = ap (word_bytes (name_of c.args.field)) c.ack_status_word.ensures ∙ simple_is_written c.args.field (ack_status_text c.args.status) (simple_ack_status c.args.status) in
    on_ok_as c.write_word.result c.write_word.new.out.items c.args.out.now.items _ _ same c.write_word.ensures
