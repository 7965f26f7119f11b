use Rattle.encoding_laws.proofs.Again.{values_encoded}
use Rattle.encoding_laws.proofs.laws.values_are_encoded.Goals as goal

pub returns : goal.returns
returns c = values_encoded
