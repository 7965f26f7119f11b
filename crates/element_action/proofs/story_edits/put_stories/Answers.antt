use Rattle.std.proofs.Common.{◌≡◌, List, length, ap, ◌∙◌}
use Rattle.mos_edits.specs.Orders.{Story, shape}
use Rattle.mos_values.specs.Distinct.{story_ids}
use Rattle.running_order.specs.Places.{put_in}
use Rattle.running_order.proofs.Lists.{OnOk-map}
use Rattle.element_action.specs.Targets.{target_place_of, place_in}
use Rattle.element_action.proofs.SourceLemmas.{insert_distinct}
use Rattle.element_action.proofs.TargetLemmas.{put_is}
use Rattle.element_action.proofs.story_edits.put_stories.Goals as goal

pub insert_stories-requires-clause-distinct : goal.insert_stories-requires-clause-distinct
insert_stories-requires-clause-distinct c = insert_distinct shape.story_id c.args.order.now.stories c.args.stories.now c.has_distinct_stories.ensures c.requires

pub returns-clause-ok : goal.returns-clause-ok
returns-clause-ok c =
    let ss = c.args.order.now.stories in
    let new = c.args.stories.now in
    let at : c.place_before-at.result ≡ place_in (length ss) (target_place_of c.args.target.now (story_ids ss)) = c.place_before-at.ensures ∙ (λ j. place_in (c.len.ensures j) (c.target_place.ensures j)) in
    OnOk-map c.insert_stories.result
    (λ e. e ∙ ap (λ (l : List Story). record c.args.order.now { stories = l }) (ap (λ k. put_in ss k new) at ∙ put_is shape.story_id c.args.target.now ss new))
    c.insert_stories.ensures.ok
