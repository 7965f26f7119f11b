use Rattle.std.proofs.Common.{List, sym, ap, ◌∙◌}
use Rattle.mos_edits.specs.KeyedLists.{put_for}
use Rattle.mos_edits.specs.Orders.{Story, shape}
use Rattle.running_order.proofs.Lists.{OnOk-map}
use Rattle.element_action.proofs.ItemSteps.{no_story, replaced_none, replaced_item, replaced_distinct}
use Rattle.element_action.proofs.item_edits.put_items_for.Goals as goal

pub replace_item-requires-clause-distinct : goal.replace_item-requires-clause-distinct
replace_item-requires-clause-distinct c =
    let here = sym c.story_place.ensures.place ∙ c.in-Some.is in
    replaced_distinct c.args.story.now c.args.order.now.stories c.in-Some.i here c.args.target.now c.in-Some-item_place.at c.args.items.now
    (sym c.item_place.ensures.place ∙ c.in-Some-item_place.is) c.item_count-count.ensures.distinct c.requires

pub returns-in-Some-item_place-clause-ok : goal.returns-in-Some-item_place-clause-ok
returns-in-Some-item_place-clause-ok c =
    let here = sym c.story_place.ensures.place ∙ c.in-Some.is in
    OnOk-map c.replace_item.result
    (λ e. e ∙ ap (λ (l : List Story). record c.args.order.now { stories = l })
    (replaced_item c.args.story.now c.args.order.now.stories c.in-Some.i here c.args.target.now c.in-Some-item_place.at c.args.items.now (sym c.item_place.ensures.place ∙ c.in-Some-item_place.is)))
    c.replace_item.ensures.ok

pub returns-in-None-item_place-clause-ok : goal.returns-in-None-item_place-clause-ok
returns-in-None-item_place-clause-ok c =
    ap (λ (l : List Story). record c.args.order.now { stories = l })
    (sym (replaced_none c.args.story.now c.args.order.now.stories c.args.target.now c.args.items.now (sym c.item_place.ensures.place ∙ c.in-None-item_place.is)))

pub returns-in-None-clause-ok : goal.returns-in-None-clause-ok
returns-in-None-clause-ok c =
    ap (λ (l : List Story). record c.args.order.now { stories = l })
    (sym (no_story c.args.story.now c.args.order.now.stories (put_for shape.item_id c.args.target.now c.args.items.now) (sym c.story_place.ensures.place ∙ c.in-None.is)))
