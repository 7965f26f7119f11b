use Rattle.std.proofs.Common.{◌≡◌, ◌<◌, length, sym, ap, subst, ◌∙◌}
use Rattle.mos_values.specs.Units.{capped, units_in}
use Rattle.mos_values.specs.Views.{items_events}
use Rattle.mos_edits.specs.Orders.{Order}
use Rattle.running_order.specs.Places.{items_at}
use Rattle.running_order.specs.Sizes.{item_size, size_at}
use Rattle.running_order.proofs.SizeLemmas.{edited-replace_item}
use Rattle.running_order.proofs.order.Order.replace_item.Goals as goal

pub invariant_of-self-2 : goal.invariant_of-self-2
invariant_of-self-2 c =
    let old = c.self.inside.stories in
    let seen : c.args.self.now.stories ≡ old = ap (λ (o : Order). o.stories) (sym c.self.view_is) in
    (c.self.invariant.0, c.size_after-self-inside.ensures old (size_at item_size (items_at old c.args.story) c.args.at) (units_in (items_events c.args.i.now)) c.self.invariant.1 c.item_units-gone.ensures (c.items_units-come.ensures ∙ ap (λ l. capped (units_in (items_events l))) c.as_slice.ensures) (edited-replace_item old c.replace_item.new.self c.args.story c.args.at c.args.i.now (subst (λ l. c.args.story < length l) seen c.requires.story) (subst (λ l. c.args.at < length (items_at l c.args.story)) seen c.requires.within) c.in_ok-replace_item.ensures.ok))
