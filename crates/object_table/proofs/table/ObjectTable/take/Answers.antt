use Rattle.std.proofs.Common.{◌≡◌, Some, None, sym, ap, subst, ◌∙◌}
use Rattle.mos_edits.specs.Texts.{Text, has_id}
use Rattle.running_order.specs.Places.{place_of}
use Rattle.object_table.specs.Objects.{StandsAt, object_ids}
use Rattle.object_table.proofs.Places.{place-none, place-stands}
use Rattle.object_table.proofs.table.ObjectTable.take.Goals as goal

pub take_at-requires : goal.take_at-requires
take_at-requires c =
    let xs = c.self.inside.objects.items in
    let id = c.args.o.now.id in
    let at : place_of id (object_ids xs) ≡ Some c.in-Some.at = ap (λ (t : Text). place_of t (object_ids xs)) (sym c.text.ensures.value) ∙ ap (place_of c.text.result.now) (sym c.self.invariant.placed) ∙ sym c.in-Some.ensures.place in
    subst (λ l. StandsAt id l c.in-Some.at) c.self.view_is (place-stands id xs c.in-Some.at at)

pub take_new-requires : goal.take_new-requires
take_new-requires c =
    let xs = c.self.inside.objects.items in
    let id = c.args.o.now.id in
    let at : place_of id (object_ids xs) ≡ None = ap (λ (t : Text). place_of t (object_ids xs)) (sym c.text.ensures.value) ∙ ap (place_of c.text.result.now) (sym c.self.invariant.placed) ∙ sym c.in-None.ensures.place in
    ap (λ l. has_id id (object_ids l)) (sym c.self.view_is) ∙ place-none id (object_ids xs) at
