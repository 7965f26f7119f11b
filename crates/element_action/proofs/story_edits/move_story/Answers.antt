use Rattle.std.proofs.Common.{◌≡◌, List, length, sym, ap, ◌∙◌}
use Rattle.indexmap.specs.IndexMap.{move_index}
use Rattle.mos_edits.specs.Orders.{Story, shape}
use Rattle.mos_edits.proofs.Distinct.{is-distinct}
use Rattle.mos_values.specs.Distinct.{story_ids}
use Rattle.element_action.specs.Targets.{target_place_of, place_moved}
use Rattle.element_action.proofs.PlaceLemmas.{place_stands, place_none}
use Rattle.element_action.proofs.TargetLemmas.{moved_is, moved_none}
use Rattle.element_action.proofs.story_edits.move_story.Goals as goal

pub returns-in-Some : goal.returns-in-Some
returns-in-Some c =
    let ss = c.args.order.now.stories in
    let from = c.in-Some.from in
    let there = place_stands shape.story_id c.args.id.now ss from (sym c.story_place.ensures.place ∙ c.in-Some.is) in
    let to : c.place_after_move.result ≡ place_moved (length ss) from (target_place_of c.args.target.now (story_ids ss)) =
    c.place_after_move.ensures ∙ (λ j. place_moved (c.len.ensures j) from (c.target_place-target.ensures j)) in
    c.move_story.ensures
    ∙ ap (λ (l : List Story). record c.args.order.now { stories = l })
    (ap (λ k. move_index ss from k) to ∙ moved_is shape.story_id c.args.target.now c.args.id.now ss from (is-distinct (story_ids ss) c.has_distinct_stories.ensures) there)

pub returns-in-None : goal.returns-in-None
returns-in-None c =
    let ss = c.args.order.now.stories in
    let absent = place_none shape.story_id c.args.id.now ss (sym c.story_place.ensures.place ∙ c.in-None.is) in
    ap (λ (l : List Story). record c.args.order.now { stories = l }) (sym (moved_none shape.story_id c.args.target.now c.args.id.now ss absent))
