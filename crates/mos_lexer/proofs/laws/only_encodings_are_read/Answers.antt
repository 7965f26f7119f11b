use Rattle.mos_lexer.proofs.UnitLaws.{only_encodings_read}
use Rattle.mos_lexer.proofs.laws.only_encodings_are_read.Goals as goal

pub returns : goal.returns
returns c = only_encodings_read
