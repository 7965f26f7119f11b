use Rattle.std.proofs.Common.{◌≡◌, IsSome, List, ap, ◌∙◌, sym, subst}
use Rattle.mos_edits.specs.Texts.{Text}
use Rattle.mos_machines.specs.Device.{GateState}
use Rattle.mos_machines.specs.Device.GateOut.{AsksFor}
use Rattle.mos_machines.specs.Tables.{gate_of, KnownOrder}
use Rattle.order_table.specs.Rows.{find_row}
use Rattle.gateway_core.specs.declared.asking.Asking.{Asking}
use Rattle.gateway_core.specs.Parts.{asking_of, confirmation_of, IsAskedKnown}
use Rattle.gateway_core.specs.Gots.{refused_asked}
use Rattle.gateway_core.specs.contracts.gate.Gate.{the_view}
use Rattle.gateway_core.proofs.TableSteps.{refused-tables}
use Rattle.gateway_core.proofs.gate.Gate.take_refusal.Goals as goal

pub returns-in-Order : goal.returns-in-Order
returns-in-Order c =
    let g = c.self.inside in
    let ro = c.in-Order.ro in
    let asked : asking_of g.out ≡ AsksFor ro = ap asking_of (sym c.replace.ensures.value ∙ c.in-Order.is) in
    let there : IsSome (find_row ro g.orders) = subst (λ o. IsAskedKnown o g.orders) asked c.self.invariant in
    let with_parts : Asking → List (Text × KnownOrder) → GateState = λ o rows. gate_of (record { upper = g.upper; link = g.link; out = asking_of o; want_all = g.want_all; confirm = confirmation_of g.confirm; note = g.note; orders = rows }) in
    (λ i. with_parts (c.replace.ensures.after i) (c.mark.ensures i))
    ∙ (refused-tables (the_view g) ro c.has_ascending_ids.ensures there
    ∙ (ap (λ o. refused_asked (gate_of (the_view g)) o) (sym asked) ∙ ap (λ t. refused_asked (gate_of t) t.out) c.self.view_is))
