use Rattle.mos_lexer.proofs.UnitLaws.{pieces_one}
use Rattle.mos_lexer.proofs.laws.pieces_are_one.Goals as goal

pub returns : goal.returns
returns c = pieces_one
