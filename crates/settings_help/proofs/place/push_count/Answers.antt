use Rattle.settings_help.proofs.Pieces.{two_pieces}
use Rattle.settings_help.proofs.place.push_count.Goals as goal

pub returns : goal.returns
returns c = two_pieces _ _ _ _ _ c.in_ok-push_word.ensures c.in_ok-push_number.ensures
