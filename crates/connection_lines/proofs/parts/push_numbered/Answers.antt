use Rattle.connection_lines.proofs.Pieces.{two_pieces}
use Rattle.connection_lines.proofs.parts.push_numbered.Goals as goal

pub returns : goal.returns
returns c = two_pieces _ _ _ _ _ c.in_ok-push_word.ensures c.in_ok-push_number.ensures
