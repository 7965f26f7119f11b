use Rattle.mos_lexer.proofs.UnitLaws.{stream_pieces_one}
use Rattle.mos_lexer.proofs.laws.stream_pieces_are_one.Goals as goal

pub returns : goal.returns
returns c = stream_pieces_one
