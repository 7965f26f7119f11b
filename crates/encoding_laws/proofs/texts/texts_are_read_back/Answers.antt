use Rattle.encoding_laws.proofs.TextLaws.{texts_back}
use Rattle.encoding_laws.proofs.texts.texts_are_read_back.Goals as goal

pub returns : goal.returns
returns c = texts_back
