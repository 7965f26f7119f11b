use Rattle.settings_help.proofs.Pieces.{two_pieces}
use Rattle.settings_help.proofs.notes.push_both.Goals as goal

pub returns : goal.returns
returns c = two_pieces _ _ _ _ _ c.in_ok-push_named.ensures c.in_ok-push_shared.ensures
