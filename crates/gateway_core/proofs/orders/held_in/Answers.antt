use Rattle.std.proofs.Common.{sym, ap, ◌∙◌}
use Rattle.gateway_core.proofs.TableSteps.{look-some, look-none}
use Rattle.gateway_core.proofs.orders.held_in.Goals as goal

pub returns-in-Some : goal.returns-in-Some
returns-in-Some c = c.as_ref.ensures.value ∙ ap (λ k. k.held) (c.known.view_is ∙ sym (look-some c.args.ro.now c.args.orders.now c.in-Some.known.now (sym c.in-Some.ensures)))

pub returns-in-None : goal.returns-in-None
returns-in-None c = ap (λ k. k.held) (sym (look-none c.args.ro.now c.args.orders.now (sym c.in-None.ensures)))
