use Rattle.std.proofs.Common.{ap, ◌∙◌, ◌||◌, ◌&&◌}
use Rattle.mos_machines.specs.Device.{GateState, is_known, wants_out}
use Rattle.mos_machines.specs.Device.GateOut.{NotAsking}
use Rattle.mos_machines.specs.Tables.{gate_of, GateTables}
use Rattle.gateway_core.specs.Parts.{confirmation_of}
use Rattle.gateway_core.specs.contracts.gate.Gate.{the_view}
use Rattle.gateway_core.proofs.TableSteps.{wanting-tables}
use Rattle.gateway_core.proofs.gate.Gate.want_out.Goals as goal

pub returns : goal.returns
returns c =
    let g = c.self.inside in
    let after : GateTables → GateState = λ t. record (gate_of t) { out = NotAsking; wanted = λ r. (gate_of t).wanted r || (is_known r (gate_of t).known && wants_out ((gate_of t).phase r)) } in
    ap (λ rows. gate_of (record { upper = g.upper; link = g.link; out = NotAsking; want_all = g.want_all; confirm = confirmation_of g.confirm; note = g.note; orders = rows })) c.change_all.ensures
    ∙ (wanting-tables (the_view g) ∙ ap after c.self.view_is)
