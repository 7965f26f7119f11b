use Rattle.std.proofs.Common.{◌≡◌, Some, None, slice_get, sym, ap, ◌∙◌}
use Rattle.mos_edits.specs.Texts.{Text}
use Rattle.running_order.specs.Places.{place_of}
use Rattle.object_table.specs.Objects.{find_object, object_ids}
use Rattle.object_table.proofs.Places.{find-none, place-none, place-stands, stands-find}
use Rattle.object_table.proofs.table.ObjectTable.get.Goals as goal

pub returns-in-Some : goal.returns-in-Some
returns-in-Some c =
    let xs = c.self.inside.objects.items in
    let id = c.args.id.now in
    let at : place_of id (object_ids xs) ≡ Some c.in-Some.at = ap (λ (t : Text). place_of t (object_ids xs)) (sym c.text.ensures.value) ∙ ap (place_of c.text.result.now) (sym c.self.invariant.placed) ∙ sym c.in-Some.ensures.place in
    c.at.ensures ∙ sym (ap (find_object id) (sym c.self.view_is) ∙ stands-find id xs c.in-Some.at (place-stands id xs c.in-Some.at at) ∙ ap (λ l. slice_get l c.in-Some.at) c.self.view_is)

pub returns-in-None : goal.returns-in-None
returns-in-None c =
    let xs = c.self.inside.objects.items in
    let id = c.args.id.now in
    let at : place_of id (object_ids xs) ≡ None = ap (λ (t : Text). place_of t (object_ids xs)) (sym c.text.ensures.value) ∙ ap (place_of c.text.result.now) (sym c.self.invariant.placed) ∙ sym c.in-None.ensures.place in
    sym (find-none id xs (place-none id (object_ids xs) at)) ∙ ap (find_object id) c.self.view_is
