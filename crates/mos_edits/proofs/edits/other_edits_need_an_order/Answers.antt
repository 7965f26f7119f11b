use Rattle.mos_edits.proofs.Applying.{apply-none}
use Rattle.mos_edits.proofs.edits.other_edits_need_an_order.Goals as goal

pub returns : goal.returns
returns c = apply-none
