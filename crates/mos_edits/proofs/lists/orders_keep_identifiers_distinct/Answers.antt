use Rattle.mos_edits.proofs.KeepsDistinct.{distinct-act}
use Rattle.mos_edits.proofs.lists.orders_keep_identifiers_distinct.Goals as goal

pub returns : goal.returns
returns c = distinct-act
