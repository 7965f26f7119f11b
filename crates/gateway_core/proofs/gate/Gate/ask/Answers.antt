use Rattle.std.proofs.Common.{◌≡◌, false, sym, ap, ◌∙◌, subst}
use Rattle.mos_machines.specs.Tables.{gate_of, row_ids, GateTables}
use Rattle.order_table.specs.Rows.{IsAscending}
use Rattle.gateway_core.specs.Parts.{confirmation_of, first_wanted_row, is_due}
use Rattle.gateway_core.specs.Asks.{ask_rest, asks_next, sent_of}
use Rattle.gateway_core.specs.contracts.gate.Gate.{the_view}
use Rattle.gateway_core.proofs.TableSteps.{on-ok, if-ok-is}
use Rattle.gateway_core.proofs.AskSteps.{rest-next, sent-once}
use Rattle.gateway_core.proofs.gate.Gate.ask.Goals as goal

pub returns-clause-answer : goal.returns-clause-answer
returns-clause-answer c =
    let now = c.args.now.now in
    let g = the_view c.self.inside in
    let none : is_due g.confirm ≡ false = sym c.send.ensures.due ∙ c.if-send.false in
    let same = c.send.ensures.sent ∙ sent-once g.confirm none in
    let X : GateTables → Type 0 = λ t. asks_next now (gate_of t) ≡ asks_next now (gate_of t) in
    if-ok-is c.ask_rest.result _ _
    (ap (λ k. sent_of (ask_rest now (gate_of (record g { confirm = k })) g.want_all (first_wanted_row g.orders) g.note).1) same
    ∙ (ap (λ x. sent_of x.1) (rest-next now g c.has_ascending_ids.ensures none) ∙ ap (λ t. sent_of (asks_next now (gate_of t)).1) c.self.view_is))
    c.ask_rest.ensures.answer

pub returns-clause-step : goal.returns-clause-step
returns-clause-step c =
    let now = c.args.now.now in
    let g = the_view c.self.inside in
    let none : is_due g.confirm ≡ false = sym c.send.ensures.due ∙ c.if-send.false in
    let same = c.send.ensures.sent ∙ sent-once g.confirm none in
    on-ok c.ask_rest.result c.ask_rest.ensures.step (λ e. e
    ∙ (ap (λ k. (ask_rest now (gate_of (record g { confirm = k })) g.want_all (first_wanted_row g.orders) g.note).0) same
    ∙ (ap (λ x. x.0) (rest-next now g c.has_ascending_ids.ensures none) ∙ ap (λ t. (asks_next now (gate_of t)).0) c.self.view_is)))
