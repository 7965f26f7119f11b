use Rattle.std.proofs.Common.{◌≡◌, length, slice_get, Some, sym, ap, subst, ◌∙◌}
use Rattle.std.specs.Option.{option_copied}
use Rattle.mos_edits.specs.Orders.{Story}
use Rattle.mos_values.specs.Distinct.{AreDistinct, item_ids}
use Rattle.running_order.proofs.Entries.{items_at-at}
use Rattle.element_action.proofs.item_edits.item_count.Goals as goal

pub returns-clause-count : goal.returns-clause-count
returns-clause-count c =
    let ss = c.args.order.now.stories in
    let s = c.in-Some.story.now in
    let at : slice_get ss c.args.story ≡ Some s = sym c.story.ensures ∙ ap (λ o. option_copied o) c.in-Some.is in
    c.len.ensures ∙ ap (λ (x : Story). length x.items) c.story-in-Some.view_is ∙ ap (λ l. length l) (sym (items_at-at ss c.args.story s at))

pub returns-clause-distinct : goal.returns-clause-distinct
returns-clause-distinct c =
    let ss = c.args.order.now.stories in
    let s = c.in-Some.story.now in
    let at : slice_get ss c.args.story ≡ Some s = sym c.story.ensures ∙ ap (λ o. option_copied o) c.in-Some.is in
    subst (λ l. AreDistinct (item_ids l)) (sym (items_at-at ss c.args.story s at)) c.has_distinct_items.ensures
