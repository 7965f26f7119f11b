use Rattle.std.proofs.Common.{◌≡◌, List, refl, sym, ap, subst, ◌∙◌}
use Rattle.std.specs.List.{Contains}
use Rattle.mos_values.specs.declared.item.Item.{Item}
use Rattle.mos_values.specs.Distinct.{item_ids}
use Rattle.mos_values.proofs.Members.{distinct_push, differs, is_so}
use Rattle.mos_values.proofs.story.Story.push_item.Goals as goal

pub invariant_of-self-2 : goal.invariant_of-self-2
invariant_of-self-2 c =
    distinct_push (λ i. i.id) c.self.inside.items c.push.new.self c.args.i c.self.invariant
    (λ p. differs _ _ c.if-repeats_item.false c.repeats_item.ensures (subst (λ (xs : List Item). Contains (item_ids xs) c.args.i.id) (sym c.as_slice.ensures) p))
    c.in_ok-push.ensures.ok

pub returns-then-repeats_item-clause-repeat : goal.returns-then-repeats_item-clause-repeat
returns-then-repeats_item-clause-repeat c =
    let same : c.as_slice.result.now ≡ c.args.self.now.items = c.as_slice.ensures ∙ ap (λ v. v.items) c.self.view_is in
    (λ e. subst (λ (xs : List Item). Contains (item_ids xs) c.args.i.id) same (is_so _ _ c.if-repeats_item.true c.repeats_item.ensures), λ p. refl)
