use Rattle.encoding_laws.proofs.WordLaws.{obj_types_back}
use Rattle.encoding_laws.proofs.words.obj_types_are_read_back.Goals as goal

pub returns : goal.returns
returns c = obj_types_back
