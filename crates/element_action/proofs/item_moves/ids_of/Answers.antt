use Rattle.std.proofs.Common.{◌≡◌, List, Some, slice_get, sym, ap, subst, ◌∙◌}
use Rattle.std.specs.Option.{option_copied}
use Rattle.std.specs.Result.{IfOk}
use Rattle.mos_edits.specs.Texts.{Text}
use Rattle.mos_edits.specs.Orders.{Story}
use Rattle.mos_values.specs.Distinct.{item_ids}
use Rattle.running_order.proofs.Entries.{items_at-at}
use Rattle.element_action.proofs.item_moves.ids_of.Goals as goal

pub returns : goal.returns
returns c =
    let ss = c.args.order.now.stories in
    let s = c.in-Some.story.now in
    let at : slice_get ss c.args.i ≡ Some s = sym c.story.ensures ∙ ap (λ o. option_copied o) c.in-Some.is in
    let same = ap (λ (x : Story). item_ids x.items) c.story-in-Some.view_is ∙ ap (λ l. item_ids l) (sym (items_at-at ss c.args.i s at)) in
    subst (λ (l : List Text). IfOk c.ids_of_items.result (λ x. x ≡ l)) same c.ids_of_items.ensures
