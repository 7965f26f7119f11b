use Rattle.value_laws.proofs.MessageValues.{events_pin_message}
use Rattle.value_laws.proofs.envelopes.events_pin_messages.Goals as goal

pub returns : goal.returns
returns c = events_pin_message
