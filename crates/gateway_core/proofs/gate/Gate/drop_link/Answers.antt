use Rattle.std.proofs.Common.{◌≡◌, ap, ◌∙◌, None, Bool, false, ◌||◌, List}
use Rattle.mos_edits.specs.Texts.{Text}
use Rattle.mos_machines.specs.Device.{gate_dropped, is_all, GateState}
use Rattle.mos_machines.specs.Tables.{gate_of, map_rows, KnownOrder, dropped_order}
use Rattle.gateway_core.specs.declared.asking.Asking.{Asking}
use Rattle.gateway_core.specs.declared.asking.Confirm.{Confirm}
use Rattle.gateway_core.specs.Parts.{asking_of, confirmation_of}
use Rattle.gateway_core.specs.contracts.gate.Gate.{the_view}
use Rattle.gateway_core.proofs.TableSteps.{dropped}
use Rattle.gateway_core.proofs.gate.Gate.drop_link.Goals as goal

pub returns : goal.returns
returns c =
    let g = c.self.inside in
    let out = c.replace-out.ensures.value in
    let confirm = c.replace-confirm.ensures.value in
    let all = c.leaves_all_wanted-self-inside.ensures ∙ ap (λ o. g.want_all || is_all (asking_of o)) out in
    let rows = c.change_all.ensures ∙ (λ i. map_rows (dropped_order (asking_of (out i)) (confirmation_of (confirm i))) g.orders) in
    let with_parts : Asking → Bool → Confirm → List (Text × KnownOrder) → GateState = λ o w k orders. gate_of (record { upper = g.upper; link = None; out = asking_of o; want_all = w; confirm = confirmation_of k; note = false; orders = orders }) in
    (λ i. with_parts (c.replace-out.ensures.after i) (all i) (c.replace-confirm.ensures.after i) (rows i))
    ∙ (dropped (the_view g) c.self.invariant ∙ ap (λ t. gate_dropped (gate_of t)) c.self.view_is)
