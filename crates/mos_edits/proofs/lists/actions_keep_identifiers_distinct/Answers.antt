use Rattle.mos_edits.proofs.KeepsDistinct.{distinct-act_list}
use Rattle.mos_edits.proofs.lists.actions_keep_identifiers_distinct.Goals as goal

pub returns : goal.returns
returns c = record { of_stories = distinct-act_list (λ s. s.id); of_items = distinct-act_list (λ i. i.id) }
