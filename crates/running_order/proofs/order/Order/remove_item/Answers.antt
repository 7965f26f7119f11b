use Rattle.std.proofs.Common.{refl, ◌≡◌, ◌<◌, length, sym, ap, subst}
use Rattle.mos_edits.specs.Orders.{Order}
use Rattle.running_order.specs.Places.{items_at}
use Rattle.running_order.specs.Sizes.{item_size, size_at}
use Rattle.running_order.proofs.SizeLemmas.{edited-remove_item}
use Rattle.running_order.proofs.order.Order.remove_item.Goals as goal

pub invariant_of-self : goal.invariant_of-self
invariant_of-self c =
    let old = c.self.inside.stories in
    let seen : c.args.self.now.stories ≡ old = ap (λ (o : Order). o.stories) (sym c.self.view_is) in
    (c.self.invariant.0, c.size_after-self-inside.ensures old (size_at item_size (items_at old c.args.story) c.args.at) 0 c.self.invariant.1 c.item_units-gone.ensures refl (edited-remove_item old c.remove_item.new.self c.args.story c.args.at (subst (λ l. c.args.story < length l) seen c.requires.story) c.remove_item.ensures))
