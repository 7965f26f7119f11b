use Rattle.mos_values.specs.MessageViews.{envelope_events}
use Rattle.value_facts.proofs.encodings.is_encoded.Goals as goal

pub returns : goal.returns
returns c =
    let e = c.args.e.now in
    let d = c.envelope_fits.ensures.distinct in
    let f = c.envelope_fits.ensures.fitting in
    let w = c.values_are_messages.ensures e c.requires.sound d f in
    c.values_are_encoded.ensures e c.requires.sound d f (c.allowed_texts_are_encoded.ensures (envelope_events e) w c.envelope_fits.ensures.allowed) c.requires.short
