use Rattle.std.proofs.Common.{◌≡◌, ◌<◌, length, sym, ap, subst, ◌∙◌}
use Rattle.mos_edits.specs.Orders.{Order}
use Rattle.mos_values.specs.Units.{capped, units_in}
use Rattle.mos_values.specs.Views.{items_events}
use Rattle.running_order.proofs.SizeLemmas.{sum-insert_items}
use Rattle.running_order.proofs.order.Order.insert_items.Goals as goal

pub invariant_of-self-2 : goal.invariant_of-self-2
invariant_of-self-2 c =
    let old = c.self.inside.stories in
    let seen : c.args.self.now.stories ≡ old = ap (λ (o : Order). o.stories) (sym c.self.view_is) in
    (c.self.invariant.0, sum-insert_items old c.insert_items.new.self c.args.story c.args.at c.args.i.now c.self.inside.stories_units c.items_units.result c.plus-self-inside.result (subst (λ l. c.args.story < length l) seen c.requires.story) c.in_ok-insert_items.ensures.ok c.self.invariant.1 (c.items_units.ensures ∙ ap (λ l. capped (units_in (items_events l))) c.as_slice.ensures) c.plus-self-inside.ensures)
