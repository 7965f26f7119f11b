use Rattle.encoding_laws.proofs.WordLaws.{airs_back}
use Rattle.encoding_laws.proofs.words.airs_are_read_back.Goals as goal

pub returns : goal.returns
returns c = airs_back
