use Rattle.settings_help.proofs.Pieces.{four_pieces}
use Rattle.settings_help.proofs.notes.push_few.Goals as goal

pub returns : goal.returns
returns c = four_pieces _ _ _ _ _ _ _ _ _ c.in_ok-push_word.ensures c.in_ok-push_word-2.ensures c.in_ok-push_number.ensures c.in_ok-push_word-3.ensures
