use Rattle.std.proofs.Common.{◌≡◌, ◌<◌, ◌++◌, [], ◌∷◌, length, get_or, subst, ap, ◌∙◌}
use Rattle.mos_edits.specs.Orders.{Story}
use Rattle.running_order.proofs.Ids.{story_ids_more}
use Rattle.element_action.proofs.sources.ids_of_stories.Goals as goal

pub loop-story-preserved : goal.loop-story-preserved
loop-story-preserved c =
    let stories = c.args.stories.now in
    let k = c.loop-story.story-index in
    let x = c.story-item.result in
    let lt : k < length stories = subst (λ l. k < length l) c.as_slice-story-items.ensures c.loop-story-test.true in
    let at : x ≡ get_or stories k x = subst (λ l. x ≡ get_or l k x) c.as_slice-story-items.ensures c.story-item.is in
    let id = c.from_id.ensures ∙ c.in_ok-try_clone.ensures ∙ ap (λ (s : Story). s.id) c.story.view_is in
    c.in_ok-push.ensures.ok ∙ (λ j. c.loop-story.invariant j ++ id j ∷ []) ∙ story_ids_more stories k x lt at
