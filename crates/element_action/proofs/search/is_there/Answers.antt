use Rattle.std.proofs.Common.{sym, ap, ◌∙◌}
use Rattle.std.specs.Option.{is_some}
use Rattle.mos_edits.specs.Texts.{has_id}
use Rattle.mos_edits.specs.Orders.{shape}
use Rattle.element_action.specs.Levels.{level_ids}
use Rattle.element_action.proofs.PlaceLemmas.{place_has}
use Rattle.element_action.proofs.ItemLemmas.{items_in, item_place_is}
use Rattle.element_action.proofs.search.is_there.Goals as goal

pub returns-in-Stories : goal.returns-in-Stories
returns-in-Stories c =
    let ss = c.args.order.now.stories in
    c.is_some.ensures ∙ ap (λ o. is_some o) c.story_place.ensures.place ∙ place_has shape.story_id c.args.id.now ss ∙ ap (λ l. has_id c.args.id.now (level_ids l ss)) (sym c.in-Stories.is)

pub returns-in-Items : goal.returns-in-Items
returns-in-Items c =
    let ss = c.args.order.now.stories in
    let story = c.in-Items.story.now in
    c.is_some-in-Items.ensures ∙ ap (λ o. is_some o) (c.item_place.ensures.place ∙ item_place_is story c.args.id.now ss)
    ∙ place_has shape.item_id c.args.id.now (items_in story ss) ∙ ap (λ l. has_id c.args.id.now (level_ids l ss)) (sym c.in-Items.is)
