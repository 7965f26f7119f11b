use Rattle.std.proofs.Common.{ap, ◌∙◌}
use Rattle.mos_edits.specs.Orders.{Order, OrderBody, bare}
use Rattle.mos_values.specs.Units.{capped, list_events, units_in}
use Rattle.running_order.proofs.order.Order.size_units.Goals as goal

pub returns : goal.returns
returns c =
    let b : OrderBody = record { header = c.self.inside.header; stories = c.self.inside.stories } in
    c.list_size.ensures b c.self.invariant.0 c.self.invariant.1 ∙ ap (λ (o : Order). capped (units_in (list_events (bare o)))) c.self.view_is
