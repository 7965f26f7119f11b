use Rattle.std.proofs.Common.{sym, ap, ◌∙◌}
use Rattle.running_order.specs.Places.{place_of}
use Rattle.element_action.specs.Levels.{level_ids}
use Rattle.element_action.proofs.ItemLemmas.{item_place_is}
use Rattle.element_action.proofs.target.place.Goals as goal

pub returns-in-Items : goal.returns-in-Items
returns-in-Items c =
    let ss = c.args.order.now.stories in
    c.item_place.ensures.place ∙ item_place_is c.in-Items.story.now c.args.id.now ss ∙ ap (λ l. place_of c.args.id.now (level_ids l ss)) (sym c.in-Items.is)
