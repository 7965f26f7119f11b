use Rattle.encoding_laws.proofs.WordLaws.{operations_back}
use Rattle.encoding_laws.proofs.words.operations_are_read_back.Goals as goal

pub returns : goal.returns
returns c = operations_back
