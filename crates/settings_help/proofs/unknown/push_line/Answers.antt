use Rattle.settings_help.proofs.Pieces.{five_pieces}
use Rattle.settings_help.proofs.unknown.push_line.Goals as goal

pub returns : goal.returns
returns c = five_pieces _ _ _ _ _ _ _ _ _ _ _ c.in_ok-push_word.ensures c.in_ok-push_place.ensures c.in_ok-push_word-2.ensures c.in_ok-push_str.ensures c.in_ok-push_word-3.ensures
