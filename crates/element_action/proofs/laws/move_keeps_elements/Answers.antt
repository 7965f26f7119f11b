use Rattle.mos_edits.specs.Orders.{shape}
use Rattle.element_action.proofs.LawLemmas.{move_places}
use Rattle.element_action.proofs.laws.move_keeps_elements.Goals as goal

pub returns : goal.returns
returns c = record { of_stories = move_places shape.story_id; of_items = move_places shape.item_id }
