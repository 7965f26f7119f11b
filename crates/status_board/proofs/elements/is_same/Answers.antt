use Rattle.std.proofs.lemmas.Bool.Decides.{same_from_decides}
use Rattle.mos_edits.specs.Texts.{same_id}
use Rattle.mos_edits.proofs.Identifiers.{same-Decides}
use Rattle.status_board.proofs.elements.is_same.Goals as goal

pub returns : goal.returns
returns c = same_from_decides c.is.result (same_id c.args.text.now c.args.other.now) c.is.ensures (same-Decides c.args.text.now c.args.other.now)
