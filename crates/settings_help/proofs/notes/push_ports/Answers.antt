use Rattle.settings_help.proofs.Pieces.{three_pieces}
use Rattle.settings_help.proofs.notes.push_ports.Goals as goal

pub returns : goal.returns
returns c = three_pieces _ _ _ _ _ _ _ c.in_ok-push_pair.ensures c.in_ok-push_pair-2.ensures c.in_ok-push_pair-3.ensures
