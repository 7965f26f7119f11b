use Rattle.std.proofs.Common.{◌≡◌, List, length, ap, ◌∙◌}
use Rattle.mos_edits.specs.Orders.{Story, shape}
use Rattle.mos_values.specs.Distinct.{story_ids}
use Rattle.running_order.proofs.Lists.{OnOk-map}
use Rattle.element_action.specs.Targets.{gathered, place_in, target_place_of}
use Rattle.element_action.proofs.GatherLemmas.{moved_together}
use Rattle.element_action.proofs.story_moves.move_at_once.Goals as goal

pub returns-clause-ok : goal.returns-clause-ok
returns-clause-ok c =
    let ss = c.args.order.now.stories in
    let at : c.place_before-at.result ≡ place_in (length ss) (target_place_of c.args.target.now (story_ids ss)) = c.place_before-at.ensures ∙ (λ j. place_in (c.len.ensures j) (c.target_place.ensures j)) in
    OnOk-map c.gather_stories.result
    (λ e. e ∙ ap (λ (l : List Story). record c.args.order.now { stories = l }) (ap (λ k. gathered shape.story_id k c.args.sources.now ss) at ∙ moved_together shape.story_id c.args.target.now c.args.sources.now ss c.requires.apart))
    c.gather_stories.ensures.ok
