use Rattle.std.proofs.Common.{◌≡◌, ap, ◌∙◌}
use Rattle.mos_fields.specs.Fields.{name_of}
use Rattle.mos_fields.specs.Values.{air_text}
use Rattle.mos_values.proofs.Simple.{simple_air}
use Rattle.mos_values.specs.Parts.{must}
use Rattle.mos_writer.specs.Encoded.{word_bytes, encoded}
use Rattle.mos_writer.proofs.EncodedLemmas.{simple_is_written, on_ok_as}
use Rattle.mos_writer.proofs.fields.write_air.Goals as goal

pub returns : goal.returns
returns c =
    let same : word_bytes (name_of c.args.field) c.air_word.result.now ≡ encoded (must c.args.field (air_text c.args.air)) = ap (word_bytes (name_of c.args.field)) c.air_word.ensures ∙ simple_is_written c.args.field (air_text c.args.air) (simple_air c.args.air) in
    on_ok_as c.write_word.result c.write_word.new.out.items c.args.out.now.items _ _ same c.write_word.ensures
