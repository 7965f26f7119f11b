use Rattle.mos_edits.specs.Orders.{shape}
use Rattle.element_action.proofs.LawLemmas.{swap_places}
use Rattle.element_action.proofs.laws.swap_keeps_elements.Goals as goal

pub returns : goal.returns
returns c = record { of_stories = swap_places shape.story_id; of_items = swap_places shape.item_id }
