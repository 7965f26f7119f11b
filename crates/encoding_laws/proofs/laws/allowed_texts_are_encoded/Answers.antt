use Rattle.encoding_laws.proofs.Again.{allowed_encoded}
use Rattle.encoding_laws.proofs.laws.allowed_texts_are_encoded.Goals as goal

pub returns : goal.returns
returns c = allowed_encoded
