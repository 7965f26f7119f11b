use Rattle.mos_edits.specs.Orders.{shape}
use Rattle.element_action.proofs.LawLemmas.{deleted, back}
use Rattle.element_action.proofs.laws.insert_undoes_delete.Goals as goal

pub returns : goal.returns
returns c = record { stories_deleted = deleted shape.story_id; stories_back = back shape.story_id; items_deleted = deleted shape.item_id; items_back = back shape.item_id }
