use Rattle.std.proofs.Common.{List, sym, ap, ◌∙◌}
use Rattle.mos_edits.specs.KeyedLists.{exchanged}
use Rattle.mos_edits.specs.Orders.{Story, shape}
use Rattle.element_action.proofs.ItemSteps.{no_story, swapped_no_first, swapped_no_second, swapped_items}
use Rattle.element_action.proofs.item_edits.swap_items.Goals as goal

pub returns-in-Some-item_place-2 : goal.returns-in-Some-item_place-2
returns-in-Some-item_place-2 c =
    let ss = c.args.order.now.stories in
    let here = sym c.story_place.ensures.place ∙ c.in-Some.is in
    let one = sym c.item_place.ensures.place ∙ c.in-Some-item_place.is in
    let two = sym c.item_place-in-Some-item_place.ensures.place ∙ c.in-Some-item_place-2.is in
    c.swap_items.ensures
    ∙ ap (λ (l : List Story). record c.args.order.now { stories = l })
    (swapped_items c.args.story.now ss c.in-Some.i here c.args.first.now c.args.second.now c.in-Some-item_place.a c.in-Some-item_place-2.b one two c.item_count-count.ensures.distinct)

pub returns-in-None-item_place-2 : goal.returns-in-None-item_place-2
returns-in-None-item_place-2 c =
    ap (λ (l : List Story). record c.args.order.now { stories = l })
    (sym (swapped_no_second c.args.story.now c.args.order.now.stories c.args.first.now c.args.second.now (sym c.item_place-in-Some-item_place.ensures.place ∙ c.in-None-item_place-2.is)))

pub returns-in-None-item_place : goal.returns-in-None-item_place
returns-in-None-item_place c =
    ap (λ (l : List Story). record c.args.order.now { stories = l })
    (sym (swapped_no_first c.args.story.now c.args.order.now.stories c.args.first.now c.args.second.now (sym c.item_place.ensures.place ∙ c.in-None-item_place.is)))

pub returns-in-None : goal.returns-in-None
returns-in-None c =
    ap (λ (l : List Story). record c.args.order.now { stories = l })
    (sym (no_story c.args.story.now c.args.order.now.stories (exchanged shape.item_id c.args.first.now c.args.second.now) (sym c.story_place.ensures.place ∙ c.in-None.is)))
