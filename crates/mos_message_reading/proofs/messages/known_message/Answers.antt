use Rattle.mos_message_reading.proofs.ElementLemmas.{element_named}
use Rattle.mos_message_reading.proofs.messages.known_message.Goals as goal

pub returns-clause-named : goal.returns-clause-named
returns-clause-named c = element_named c.named_message.result _ _ c.named_message.ensures
