use Rattle.std.proofs.Common.{sym, ap, ◌∙◌}
use Rattle.gateway_core.proofs.TableSteps.{look-some, look-none}
use Rattle.gateway_core.proofs.orders.phase_in.Goals as goal

pub returns-in-Some : goal.returns-in-Some
returns-in-Some c = ap (λ k. k.phase) (c.known.view_is ∙ sym (look-some c.args.ro.now c.args.orders.now c.in-Some.known.now (sym c.in-Some.ensures)))

pub returns-in-None : goal.returns-in-None
returns-in-None c = ap (λ k. k.phase) (sym (look-none c.args.ro.now c.args.orders.now (sym c.in-None.ensures)))
