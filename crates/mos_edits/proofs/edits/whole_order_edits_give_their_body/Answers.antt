use Rattle.mos_edits.proofs.Applying.{apply-whole}
use Rattle.mos_edits.proofs.edits.whole_order_edits_give_their_body.Goals as goal

pub returns : goal.returns
returns c = apply-whole
