use Rattle.std.proofs.Common.{List, sym, ap, ◌∙◌}
use Rattle.mos_edits.specs.KeyedLists.{picked, put_before, without}
use Rattle.mos_edits.specs.Orders.{Story, shape}
use Rattle.running_order.proofs.Lists.{OnOk-map}
use Rattle.element_action.specs.Targets.{place_in}
use Rattle.element_action.proofs.ItemSteps.{no_story, at_within}
use Rattle.element_action.proofs.ItemMoveLemmas.{there_at, moved_once}
use Rattle.element_action.proofs.item_moves.move_at_once.Goals as goal

pub gather_items-requires-clause-here : goal.gather_items-requires-clause-here
gather_items-requires-clause-here c = sym c.story_place.ensures.place ∙ c.in-Some.is

pub gather_items-requires-clause-within : goal.gather_items-requires-clause-within
gather_items-requires-clause-within c =
    let here = sym c.story_place.ensures.place ∙ c.in-Some.is in
    at_within c.args.story.now c.args.order.now.stories c.in-Some.i here c.args.target.now c.place_before-at.result (c.place_before-at.ensures ∙ (λ j. place_in (c.item_count-end.ensures.count j) (c.target_place.ensures j)))

pub gather_items-requires-clause-there : goal.gather_items-requires-clause-there
gather_items-requires-clause-there c =
    let here = sym c.story_place.ensures.place ∙ c.in-Some.is in
    there_at c.args.story.now c.args.order.now.stories c.in-Some.i here c.args.sources.now c.requires.there

pub returns-in-Some-clause-ok : goal.returns-in-Some-clause-ok
returns-in-Some-clause-ok c =
    let here = sym c.story_place.ensures.place ∙ c.in-Some.is in
    OnOk-map c.gather_items.result
    (λ e. e ∙ ap (λ (l : List Story). record c.args.order.now { stories = l })
    (moved_once c.args.story.now c.args.order.now.stories c.in-Some.i here c.args.target.now c.place_before-at.result c.args.sources.now (c.place_before-at.ensures ∙ (λ j. place_in (c.item_count-end.ensures.count j) (c.target_place.ensures j))) c.requires.apart))
    c.gather_items.ensures.ok

pub returns-in-None-clause-ok : goal.returns-in-None-clause-ok
returns-in-None-clause-ok c =
    let sources = c.args.sources.now in
    ap (λ (l : List Story). record c.args.order.now { stories = l })
    (sym (no_story c.args.story.now c.args.order.now.stories (λ old. put_before shape.item_id c.args.target.now (picked shape.item_id sources old) (without shape.item_id sources old)) (sym c.story_place.ensures.place ∙ c.in-None.is)))
