use Rattle.encoding_laws.proofs.TextLaws.{opt_ids_back}
use Rattle.encoding_laws.proofs.texts.opt_ids_are_read_back.Goals as goal

pub returns : goal.returns
returns c = opt_ids_back
