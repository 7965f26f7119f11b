use Rattle.std.proofs.Common.{◌≡◌, Bool, List, ap, ◌∙◌, sym, if◌then◌else◌}
use Rattle.mos_edits.specs.Texts.{Text}
use Rattle.mos_machines.specs.Device.{GateState, Confirmation, got_order}
use Rattle.mos_machines.specs.Device.GateOut.{NotAsking}
use Rattle.mos_machines.specs.Tables.{gate_of, GateTables, KnownOrder}
use Rattle.gateway_core.specs.Parts.{asking_of, confirmation_of}
use Rattle.gateway_core.specs.contracts.gate.Gate.{the_view}
use Rattle.gateway_core.proofs.TableSteps.{got-tables}
use Rattle.gateway_core.proofs.gate.Gate.take_for.Goals as goal

pub returns : goal.returns
returns c =
    let g = c.self.inside in
    let free : (the_view g).out ≡ NotAsking = ap (λ t. t.out) c.self.view_is ∙ c.requires.free in
    let with_parts : Confirmation → List (Text × KnownOrder) → GateState = λ k rows. gate_of (record { upper = g.upper; link = g.link; out = asking_of g.out; want_all = g.want_all; confirm = k; note = g.note; orders = rows }) in
    let confirm = c.list.ensures ∙ ap (λ b. if b then Confirmation.Due c.args.ro else confirmation_of g.confirm) c.hold-in_step.ensures.in_step in
    (λ i. with_parts (confirm i) (c.hold-in_step.ensures.row i))
    ∙ (got-tables (the_view g) c.args.ro c.args.held free ∙ ap (λ t. got_order (gate_of t) c.args.ro c.args.held) c.self.view_is)
