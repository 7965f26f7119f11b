use Rattle.std.proofs.Common.{◌≡◌, IsSome, Some, false, sym, ap, ◌∙◌, subst}
use Rattle.mos_machines.specs.Device.{Phase}
use Rattle.mos_machines.specs.Device.GateOut.{AsksFor}
use Rattle.mos_machines.specs.Tables.{gate_of, look, unknown_order}
use Rattle.order_table.specs.Rows.{find_row}
use Rattle.gateway_core.specs.Parts.{asking_of, confirmation_of, first_wanted_row}
use Rattle.gateway_core.specs.Asks.{ask_wanted}
use Rattle.gateway_core.specs.contracts.gate.Gate.{the_view}
use Rattle.gateway_core.proofs.TableSteps.{some-put, there-put}
use Rattle.gateway_core.proofs.AskSteps.{first-there}
use Rattle.gateway_core.proofs.gate.Gate.ask_wanted.Goals as goal

pub mark-requires : goal.mark-requires
mark-requires c =
    let first = ap first_wanted_row (sym c.rows.ensures) ∙ (sym c.in-Some.ensures ∙ ap Some (sym c.in_ok-ro-in-Some.ensures)) in
    first-there c.self.inside.orders c.in_ok-ro-in-Some.ro first

pub invariant_of-self : goal.invariant_of-self
invariant_of-self c =
    let ro = c.in_ok-ro-in-Some.ro in
    subst (λ rows. IsSome (find_row ro rows)) (sym c.mark.ensures) (some-put ro (record (look unknown_order c.self.inside.orders ro) { phase = Phase.Asked; wanted = false }) c.self.inside.orders)

pub returns-in_ok-sent-in-Some-clause-step : goal.returns-in_ok-sent-in-Some-clause-step
returns-in_ok-sent-in-Some-clause-step c =
    let g = c.self.inside in
    let ro = c.in_ok-ro-in-Some.ro in
    let now = c.args.now.now in
    let first = ap first_wanted_row (sym c.rows.ensures) ∙ (sym c.in-Some.ensures ∙ ap Some (sym c.in_ok-ro-in-Some.ensures)) in
    ap (λ rows. gate_of (record { upper = g.upper; link = g.link; out = AsksFor ro; want_all = g.want_all; confirm = confirmation_of g.confirm; note = g.note; orders = rows })) c.mark.ensures
    ∙ (there-put (record (the_view g) { out = AsksFor ro }) ro Phase.Asked false c.has_ascending_ids.ensures (first-there g.orders ro first)
    ∙ (ap (λ o. (ask_wanted now (gate_of (the_view g)) o g.note).0) (sym first)
    ∙ ap (λ t. (ask_wanted now (gate_of t) (first_wanted_row t.orders) t.note).0) c.self.view_is))
