use Rattle.mos_values.specs.MessageViews.{envelope_events}
use Rattle.mos_codec.proofs.Pinning.{encoded_by}
use Rattle.world_messages.proofs.encoding.is_encoded_if_sound.Goals as goal

pub returns : goal.returns
returns c = λ sound short.
    let e = c.args.e.now in
    let fits = c.envelope_fits.ensures in
    let whole = c.values_are_messages.ensures e sound fits.distinct fits.fitting in
    encoded_by c.args.bytes.now e c.requires sound c.message_is_in_range.ensures
    (c.values_are_encoded.ensures e sound fits.distinct fits.fitting (c.allowed_texts_are_encoded.ensures (envelope_events e) whole fits.allowed) short)
