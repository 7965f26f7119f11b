use Rattle.std.proofs.Common.{List, Option, None, ap, ◌∙◌}
use Rattle.mos_edits.specs.Orders.{Order}
use Rattle.mos_edits.specs.Texts.{Text}
use Rattle.mos_machines.specs.Tables.{look}
use Rattle.ncs_core.proofs.AcceptedRows.{on-err-of}
use Rattle.ncs_core.proofs.accepting.exchange_in.Goals as goal

pub returns-in_err-know-clause-err : goal.returns-in_err-know-clause-err
returns-in_err-know-clause-err c = on-err-of c.from_residual.result (c.know.ensures.same ∙ ap (λ (rows : List (Text × Option Order)). look None rows) c.orders.view_is)

pub returns-in_err-units-clause-err : goal.returns-in_err-units-clause-err
returns-in_err-units-clause-err c = on-err-of c.from_residual-in_err-units.result (c.in_err-units.ensures.err ∙ (c.know.ensures.same ∙ ap (λ (rows : List (Text × Option Order)). look None rows) c.orders.view_is))

pub returns-clause-order : goal.returns-clause-order
returns-clause-order c = c.in_ok-units.ensures.order ∙ ap (λ (l : Text → Option Order). l c.args.ro.now) (c.know.ensures.same ∙ ap (λ (rows : List (Text × Option Order)). look None rows) c.orders.view_is)
