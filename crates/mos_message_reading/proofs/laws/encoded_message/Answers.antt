use Rattle.mos_message_reading.proofs.ValueLemmas.{encoded_value}
use Rattle.mos_message_reading.proofs.laws.encoded_message.Goals as goal

pub returns : goal.returns
returns c = encoded_value
