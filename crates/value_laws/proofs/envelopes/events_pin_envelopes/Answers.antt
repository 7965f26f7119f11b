use Rattle.value_laws.proofs.MessageValues.{events_pin_envelope}
use Rattle.value_laws.proofs.envelopes.events_pin_envelopes.Goals as goal

pub returns : goal.returns
returns c = events_pin_envelope
