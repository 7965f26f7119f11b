use Rattle.std.proofs.Common.{List, sym, ap, ◌∙◌}
use Rattle.mos_edits.specs.Orders.{Story, shape}
use Rattle.mos_edits.proofs.Distinct.{is-distinct}
use Rattle.mos_values.specs.Distinct.{story_ids}
use Rattle.element_action.proofs.PlaceLemmas.{place_stands, place_none}
use Rattle.element_action.proofs.StepLemmas.{exchange_is_swap, exchange_no_first, exchange_no_second}
use Rattle.element_action.proofs.story_edits.swap_stories.Goals as goal

pub returns-in-Some-story_place : goal.returns-in-Some-story_place
returns-in-Some-story_place c =
    let ss = c.args.order.now.stories in
    let a = c.args.first.now in
    let b = c.args.second.now in
    let one = place_stands shape.story_id a ss c.in-Some.a (sym c.story_place.ensures.place ∙ c.in-Some.is) in
    let two = place_stands shape.story_id b ss c.in-Some-story_place.b (sym c.story_place-in-Some.ensures.place ∙ c.in-Some-story_place.is) in
    c.swap_stories.ensures
    ∙ ap (λ (l : List Story). record c.args.order.now { stories = l })
    (sym (exchange_is_swap shape.story_id a b ss c.in-Some.a c.in-Some-story_place.b (is-distinct (story_ids ss) c.has_distinct_stories.ensures) one two))

pub returns-in-None-story_place : goal.returns-in-None-story_place
returns-in-None-story_place c =
    let ss = c.args.order.now.stories in
    let absent = place_none shape.story_id c.args.second.now ss (sym c.story_place-in-Some.ensures.place ∙ c.in-None-story_place.is) in
    ap (λ (l : List Story). record c.args.order.now { stories = l }) (sym (exchange_no_second shape.story_id c.args.first.now c.args.second.now ss absent))

pub returns-in-None : goal.returns-in-None
returns-in-None c =
    let ss = c.args.order.now.stories in
    let absent = place_none shape.story_id c.args.first.now ss (sym c.story_place.ensures.place ∙ c.in-None.is) in
    ap (λ (l : List Story). record c.args.order.now { stories = l }) (sym (exchange_no_first shape.story_id c.args.first.now c.args.second.now ss absent))
