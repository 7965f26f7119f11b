use Rattle.mos_message_reading.proofs.ReadLemmas.{read_value}
use Rattle.mos_message_reading.proofs.laws.read_message.Goals as goal

pub returns : goal.returns
returns c = read_value
