use Rattle.encoding_laws.proofs.Again.{values_messages}
use Rattle.encoding_laws.proofs.laws.values_are_messages.Goals as goal

pub returns : goal.returns
returns c = values_messages
