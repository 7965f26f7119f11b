use Rattle.std.proofs.Common.{List, sym, ap, ◌∙◌}
use Rattle.mos_edits.specs.KeyedLists.{put_before}
use Rattle.mos_edits.specs.Orders.{Story, shape}
use Rattle.running_order.proofs.Lists.{OnOk-map}
use Rattle.element_action.specs.Targets.{place_in}
use Rattle.element_action.proofs.ItemSteps.{no_story, at_within, put_item, put_distinct}
use Rattle.element_action.proofs.item_edits.put_items.Goals as goal

pub insert_items-requires-clause-within : goal.insert_items-requires-clause-within
insert_items-requires-clause-within c =
    let ss = c.args.order.now.stories in
    let here = sym c.story_place.ensures.place ∙ c.in-Some.is in
    at_within c.args.story.now ss c.in-Some.i here c.args.target.now c.place_before-at.result (c.place_before-at.ensures ∙ (λ j. place_in (c.item_count-end.ensures.count j) (c.target_place.ensures j)))

pub insert_items-requires-clause-distinct : goal.insert_items-requires-clause-distinct
insert_items-requires-clause-distinct c =
    let here = sym c.story_place.ensures.place ∙ c.in-Some.is in
    put_distinct c.args.story.now c.args.order.now.stories c.in-Some.i here c.args.items.now c.item_count-end.ensures.distinct c.requires

pub returns-in-Some-clause-ok : goal.returns-in-Some-clause-ok
returns-in-Some-clause-ok c =
    let ss = c.args.order.now.stories in
    let here = sym c.story_place.ensures.place ∙ c.in-Some.is in
    OnOk-map c.insert_items.result
    (λ e. e ∙ ap (λ (l : List Story). record c.args.order.now { stories = l })
    (put_item c.args.story.now ss c.in-Some.i here c.args.target.now c.place_before-at.result c.args.items.now (c.place_before-at.ensures ∙ (λ j. place_in (c.item_count-end.ensures.count j) (c.target_place.ensures j)))))
    c.insert_items.ensures.ok

pub returns-in-None-clause-ok : goal.returns-in-None-clause-ok
returns-in-None-clause-ok c =
    ap (λ (l : List Story). record c.args.order.now { stories = l })
    (sym (no_story c.args.story.now c.args.order.now.stories (put_before shape.item_id c.args.target.now c.args.items.now) (sym c.story_place.ensures.place ∙ c.in-None.is)))
