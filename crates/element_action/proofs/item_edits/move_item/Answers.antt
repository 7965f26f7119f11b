use Rattle.std.proofs.Common.{◌≡◌, List, length, sym, ap, ◌∙◌}
use Rattle.mos_edits.specs.Orders.{Story, shape}
use Rattle.mos_values.specs.Distinct.{item_ids}
use Rattle.running_order.specs.Places.{items_at}
use Rattle.element_action.specs.Targets.{target_place_of, place_moved, moved}
use Rattle.element_action.proofs.ItemLemmas.{items_in}
use Rattle.element_action.proofs.ItemSteps.{no_story, moved_no_item, to_within, moved_item}
use Rattle.element_action.proofs.item_edits.move_item.Goals as goal

pub move_item-requires-clause-to : goal.move_item-requires-clause-to
move_item-requires-clause-to c =
    let ss = c.args.order.now.stories in
    let here = sym c.story_place.ensures.place ∙ c.in-Some.is in
    let from = c.in-Some-item_place.from in
    let to : c.place_after_move.result ≡ place_moved (length (items_at ss c.in-Some.i)) from (target_place_of c.args.target.now (item_ids (items_in c.args.story.now ss))) =
    c.place_after_move.ensures ∙ (λ j. place_moved (c.item_count-end.ensures.count j) from (c.target_place-target.ensures j)) in
    to_within c.args.story.now ss c.in-Some.i here c.args.target.now c.args.id.now from c.place_after_move.result (sym c.item_place.ensures.place ∙ c.in-Some-item_place.is) to

pub returns-in-Some-item_place : goal.returns-in-Some-item_place
returns-in-Some-item_place c =
    let ss = c.args.order.now.stories in
    let here = sym c.story_place.ensures.place ∙ c.in-Some.is in
    let from = c.in-Some-item_place.from in
    let to : c.place_after_move.result ≡ place_moved (length (items_at ss c.in-Some.i)) from (target_place_of c.args.target.now (item_ids (items_in c.args.story.now ss))) =
    c.place_after_move.ensures ∙ (λ j. place_moved (c.item_count-end.ensures.count j) from (c.target_place-target.ensures j)) in
    c.move_item.ensures
    ∙ ap (λ (l : List Story). record c.args.order.now { stories = l })
    (moved_item c.args.story.now ss c.in-Some.i here c.args.target.now c.args.id.now from c.place_after_move.result (sym c.item_place.ensures.place ∙ c.in-Some-item_place.is) c.item_count-end.ensures.distinct to)

pub returns-in-None-item_place : goal.returns-in-None-item_place
returns-in-None-item_place c =
    ap (λ (l : List Story). record c.args.order.now { stories = l })
    (sym (moved_no_item c.args.story.now c.args.order.now.stories c.args.target.now c.args.id.now (sym c.item_place.ensures.place ∙ c.in-None-item_place.is)))

pub returns-in-None : goal.returns-in-None
returns-in-None c =
    ap (λ (l : List Story). record c.args.order.now { stories = l })
    (sym (no_story c.args.story.now c.args.order.now.stories (moved shape.item_id c.args.target.now c.args.id.now) (sym c.story_place.ensures.place ∙ c.in-None.is)))
