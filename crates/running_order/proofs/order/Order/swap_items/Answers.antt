use Rattle.std.proofs.Common.{sym, ap, ◌∙◌, ◌≡◌, ◌<◌, length, subst}
use Rattle.mos_values.specs.Units.{capped}
use Rattle.mos_edits.specs.Orders.{Order}
use Rattle.running_order.specs.Places.{items_at}
use Rattle.running_order.proofs.SizeLemmas.{size-swap_items}
use Rattle.running_order.proofs.order.Order.swap_items.Goals as goal

pub invariant_of-self : goal.invariant_of-self
invariant_of-self c =
    let old = c.self.inside.stories in
    let seen : c.args.self.now.stories ≡ old = ap (λ (o : Order). o.stories) (sym c.self.view_is) in
    (c.self.invariant.0, c.self.invariant.1 ∙ ap capped (sym (size-swap_items old c.swap_items.new.self c.args.story c.args.a c.args.b (subst (λ l. c.args.story < length l) seen c.requires.story) (subst (λ l. c.args.a < length (items_at l c.args.story)) seen c.requires.a) (subst (λ l. c.args.b < length (items_at l c.args.story)) seen c.requires.b) c.swap_items.ensures)))
