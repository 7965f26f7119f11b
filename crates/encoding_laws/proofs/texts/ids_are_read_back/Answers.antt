use Rattle.encoding_laws.proofs.TextLaws.{ids_back}
use Rattle.encoding_laws.proofs.texts.ids_are_read_back.Goals as goal

pub returns : goal.returns
returns c = ids_back
