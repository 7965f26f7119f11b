use Rattle.mos_values.specs.MessageViews.{envelope_events}
use Rattle.value_laws.proofs.laws.encoded_messages_are_sound.Goals as goal

pub returns : goal.returns
returns c = λ e us h n. c.read_messages_are_sound.ensures e (c.encoded_message.ensures (envelope_events e) us h) n
