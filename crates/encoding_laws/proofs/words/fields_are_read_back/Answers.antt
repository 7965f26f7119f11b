use Rattle.encoding_laws.proofs.WordLaws.{fields_back}
use Rattle.encoding_laws.proofs.words.fields_are_read_back.Goals as goal

pub returns : goal.returns
returns c = fields_back
