use Rattle.std.proofs.Common.{◌≡◌, ◌+◌, ◌∷◌, ◌++◌, [], ◌<◌, length, get_or, take, subst, ap, sym, ◌∙◌}
use Rattle.mos_values.specs.Distinct.{AreDistinct}
use Rattle.object_table.specs.Objects.{object_ids}
use Rattle.object_table.proofs.Places.{distinct-front, ids-more}
use Rattle.object_table.proofs.table.ids_of.Goals as goal

pub push-requires : goal.push-requires
push-requires c =
    let xs = c.args.objects.now.items in
    let k = c.loop-object.object-index in
    let x = c.object-item.result in
    let lt : k < length xs = subst (λ l. k < length l) c.deref-object-items.ensures.value c.loop-object-test.true in
    let at : x ≡ get_or xs k x = subst (λ l. x ≡ get_or l k x) c.deref-object-items.ensures.value c.object-item.is in
    let inv : c.loop-object.table ≡ object_ids (take k xs) = c.loop-object.invariant ∙ ap (λ l. object_ids (take k l)) c.deref-object-items.ensures.value in
    let seen : object_ids (take (k + 1) xs) ≡ c.loop-object.table ++ c.text.result.now ∷ [] = sym (ids-more xs k x lt at) ∙ (λ j. sym inv j ++ sym c.text.ensures.value j ∷ []) in
    subst AreDistinct seen (distinct-front xs (k + 1) c.requires)
