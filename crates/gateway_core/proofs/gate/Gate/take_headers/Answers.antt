use Rattle.std.proofs.Common.{ap, ◌∙◌}
use Rattle.mos_machines.specs.Device.{got_by}
use Rattle.mos_machines.specs.Device.GateOut.{NotAsking, AsksAll}
use Rattle.mos_machines.specs.Messages.Message.{RoListAll}
use Rattle.mos_machines.specs.Tables.{gate_of}
use Rattle.gateway_core.specs.Parts.{confirmation_of}
use Rattle.gateway_core.specs.Lists.{listed_rows}
use Rattle.gateway_core.specs.contracts.gate.Gate.{the_view}
use Rattle.gateway_core.proofs.ListSteps.{listed-tables}
use Rattle.gateway_core.proofs.gate.Gate.take_headers.Goals as goal

pub returns-clause-step : goal.returns-clause-step
returns-clause-step c =
    let g = c.self.inside in
    let hs = c.args.headers.now in
    let rows = c.in_ok-list_in.ensures.ok ∙ ap (λ l. listed_rows l g.orders) c.as_slice.ensures in
    ap (λ t. gate_of (record { upper = g.upper; link = g.link; out = NotAsking; want_all = g.want_all; confirm = confirmation_of g.confirm; note = g.note; orders = t })) rows
    ∙ (listed-tables (the_view g) hs c.has_ascending_ids.ensures ∙ ap (λ t. (got_by (gate_of t) AsksAll (RoListAll hs)).0) c.self.view_is)
