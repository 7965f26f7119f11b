use Rattle.value_laws.proofs.EncodingLemmas.{encodings_pin}
use Rattle.value_laws.proofs.encodings.encodings_pin_envelopes.Goals as goal

pub returns : goal.returns
returns c = encodings_pin c.encodings_are_apart.ensures c.events_pin_envelopes.ensures
