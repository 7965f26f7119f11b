use Rattle.encoding_laws.proofs.NumberLaws.{samples_back}
use Rattle.encoding_laws.proofs.numbers.samples_are_read_back.Goals as goal

pub returns : goal.returns
returns c = samples_back
