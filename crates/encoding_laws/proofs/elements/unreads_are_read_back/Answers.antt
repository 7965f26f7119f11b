use Rattle.encoding_laws.proofs.ElementLaws.{unreads_back}
use Rattle.encoding_laws.proofs.elements.unreads_are_read_back.Goals as goal

pub returns : goal.returns
returns c = unreads_back
