use Rattle.mos_edits.proofs.KeepsDistinct.{distinct-apply}
use Rattle.mos_edits.proofs.lists.edits_keep_identifiers_distinct.Goals as goal

pub returns : goal.returns
returns c = distinct-apply
