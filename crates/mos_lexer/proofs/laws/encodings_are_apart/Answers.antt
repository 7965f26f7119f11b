use Rattle.mos_lexer.proofs.UnitLaws.{encodings_apart}
use Rattle.mos_lexer.proofs.laws.encodings_are_apart.Goals as goal

pub returns : goal.returns
returns c = encodings_apart
