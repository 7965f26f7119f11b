use Rattle.mos_lexer.proofs.UnitLaws.{encodings_read}
use Rattle.mos_lexer.proofs.laws.encodings_are_read.Goals as goal

pub returns : goal.returns
returns c = encodings_read
