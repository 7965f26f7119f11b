use Rattle.std.proofs.Common.{List, [], ◌∷◌, sym, ap, ◌∙◌}
use Rattle.mos_edits.specs.KeyedLists.{without}
use Rattle.mos_edits.specs.Orders.{Story, shape}
use Rattle.element_action.proofs.ItemSteps.{no_story, removed_none, removed_item}
use Rattle.element_action.proofs.item_edits.remove_item.Goals as goal

pub returns-in-Some-item_place : goal.returns-in-Some-item_place
returns-in-Some-item_place c =
    let ss = c.args.order.now.stories in
    let here = sym c.story_place.ensures.place ∙ c.in-Some.is in
    c.remove_item.ensures
    ∙ ap (λ (l : List Story). record c.args.order.now { stories = l })
    (removed_item c.args.story.now ss c.in-Some.i here c.args.id.now c.in-Some-item_place.at (sym c.item_place.ensures.place ∙ c.in-Some-item_place.is) c.item_count-count.ensures.distinct)

pub returns-in-None-item_place : goal.returns-in-None-item_place
returns-in-None-item_place c =
    ap (λ (l : List Story). record c.args.order.now { stories = l })
    (sym (removed_none c.args.story.now c.args.order.now.stories c.args.id.now (sym c.item_place.ensures.place ∙ c.in-None-item_place.is)))

pub returns-in-None : goal.returns-in-None
returns-in-None c =
    ap (λ (l : List Story). record c.args.order.now { stories = l })
    (sym (no_story c.args.story.now c.args.order.now.stories (without shape.item_id (c.args.id.now ∷ [])) (sym c.story_place.ensures.place ∙ c.in-None.is)))
