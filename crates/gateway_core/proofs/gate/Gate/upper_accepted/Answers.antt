use Rattle.std.proofs.Common.{sym, ap, ◌∙◌, subst, Some, true}
use Rattle.mos_machines.specs.Device.{gate_accepted}
use Rattle.mos_machines.specs.Device.Confirmation.{NotDue}
use Rattle.mos_machines.specs.Tables.{gate_of, crossed_order}
use Rattle.gateway_core.specs.Parts.{asking_of, IsAskedKnown}
use Rattle.gateway_core.specs.contracts.gate.Gate.{the_view}
use Rattle.gateway_core.proofs.TableSteps.{asked-map, accepted}
use Rattle.gateway_core.proofs.gate.Gate.upper_accepted.Goals as goal

pub invariant_of-self : goal.invariant_of-self
invariant_of-self c =
    let out = asking_of c.self.inside.out in
    subst (λ rows. IsAskedKnown out rows) (sym c.change_all.ensures) (asked-map (λ r. crossed_order) out c.self.inside.orders c.self.invariant)

pub returns : goal.returns
returns c =
    let g = c.self.inside in
    ap (λ rows. gate_of (record { upper = Some c.args.link; link = g.link; out = asking_of g.out; want_all = true; confirm = NotDue; note = g.note; orders = rows })) c.change_all.ensures
    ∙ (accepted c.args.link (the_view g) ∙ ap (λ t. gate_accepted c.args.link (gate_of t)) c.self.view_is)
