use Rattle.encoding_laws.proofs.ElementLaws.{elements_raw}
use Rattle.encoding_laws.proofs.elements.elements_are_raw.Goals as goal

pub returns : goal.returns
returns c = elements_raw
