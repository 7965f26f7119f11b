use Rattle.encoding_laws.proofs.WordLaws.{levels_back}
use Rattle.encoding_laws.proofs.words.levels_are_read_back.Goals as goal

pub returns : goal.returns
returns c = levels_back
