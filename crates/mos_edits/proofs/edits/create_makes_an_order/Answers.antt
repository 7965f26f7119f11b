use Rattle.mos_edits.proofs.Applying.{apply-create, apply-created}
use Rattle.mos_edits.proofs.edits.create_makes_an_order.Goals as goal

pub returns : goal.returns
returns c = record { none = apply-create; there = apply-created }
