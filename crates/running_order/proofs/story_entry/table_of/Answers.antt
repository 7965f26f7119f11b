use Rattle.std.proofs.Common.{◌≡◌, ◌+◌, ◌<◌, [], ◌∷◌, ◌++◌, length, take, get_or, subst, sym, ◌∙◌}
use Rattle.mos_values.specs.Distinct.{AreDistinct}
use Rattle.mos_values.specs.Distinct.{item_ids}
use Rattle.running_order.proofs.Ids.{ids_more, distinct_more}
use Rattle.running_order.proofs.story_entry.table_of.Goals as goal

pub push-requires : goal.push-requires
push-requires c =
    let items = c.args.items.now in
    let k = c.loop-item.item-index in
    let x = c.item-item.result in
    let lt : k < length items = subst (λ l. k < length l) c.as_slice-item-items.ensures c.loop-item-test.true in
    let at : x ≡ get_or items k x = subst (λ l. x ≡ get_or l k x) c.as_slice-item-items.ensures c.item-item.is in
    let seen : item_ids ((take (k + 1) items)) ≡ c.loop-item.table ++ c.text.result.now ∷ [] = sym (ids_more items k x lt at) ∙ (λ j. sym c.loop-item.invariant j ++ sym c.text.ensures.value j ∷ []) in
    subst AreDistinct seen (distinct_more items (k + 1) c.requires)
