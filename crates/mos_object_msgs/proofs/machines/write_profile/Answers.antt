use Rattle.std.proofs.Common.{refl, arith}
use Rattle.std.specs.Fmt.{decimal}
use Rattle.mos_fields.specs.declared.field.Field.TheVariants as fields
use Rattle.mos_fields.specs.Fields.{name_of}
use Rattle.mos_values.specs.Views.{answer_text, profile_events}
use Rattle.mos_values.proofs.Simple.{simple_decimal}
use Rattle.mos_writer.proofs.EncodedLemmas.{leaf_with_written, simple_answer, started_named, worded, ended}
use Rattle.mos_object_msgs.proofs.machines.write_profile.Goals as goal

pub returns : goal.returns
unfolding profile_events
returns c =
    let p = c.args.profile.now in
    leaf_with_written (name_of fields.MosProfile) (decimal p.number) (answer_text p.supported) fields.Number c.args.out.now.items _ _ _ refl (simple_decimal p.number (omega arith)) (simple_answer p.supported)
    (started_named _ _ _ _ _ _ _ _ c.name.ensures c.name-2.ensures c.digit_word.ensures c.in_ok-push_start_with.ensures)
    (worded _ _ _ _ c.answer_word.ensures c.in_ok-push_word.ensures)
    (ended _ _ _ _ c.name-3.ensures c.in_ok-push_end.ensures)
