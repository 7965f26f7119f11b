use Rattle.encoding_laws.proofs.TextLaws.{names_back}
use Rattle.encoding_laws.proofs.texts.names_are_read_back.Goals as goal

pub returns : goal.returns
returns c = names_back
