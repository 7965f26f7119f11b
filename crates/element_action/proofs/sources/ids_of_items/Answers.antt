use Rattle.std.proofs.Common.{◌≡◌, ◌<◌, ◌++◌, [], ◌∷◌, length, get_or, subst, ◌∙◌}
use Rattle.running_order.proofs.Ids.{ids_more}
use Rattle.element_action.proofs.sources.ids_of_items.Goals as goal

pub loop-item-preserved : goal.loop-item-preserved
loop-item-preserved c =
    let items = c.args.items.now in
    let k = c.loop-item.item-index in
    let x = c.item-item.result in
    let lt : k < length items = subst (λ l. k < length l) c.as_slice-item-items.ensures c.loop-item-test.true in
    let at : x ≡ get_or items k x = subst (λ l. x ≡ get_or l k x) c.as_slice-item-items.ensures c.item-item.is in
    c.in_ok-push.ensures.ok ∙ (λ j. c.loop-item.invariant j ++ (c.from_id.ensures ∙ c.in_ok-try_clone.ensures) j ∷ []) ∙ ids_more items k x lt at
