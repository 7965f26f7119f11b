use Rattle.encoding_laws.proofs.NumberLaws.{revs_back}
use Rattle.encoding_laws.proofs.numbers.revs_are_read_back.Goals as goal

pub returns : goal.returns
returns c = revs_back
