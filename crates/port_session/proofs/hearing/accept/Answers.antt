use Rattle.std.proofs.Common.{Bool, [], refl, sym, subst}
use Rattle.port_session.specs.Serving.{Opens}
use Rattle.port_session.proofs.Servings.{gains_none}
use Rattle.port_session.proofs.hearing.accept.Goals as goal

pub returns-then-on-clause-began : goal.returns-then-on-clause-began
returns-then-on-clause-began g c = ([], gains_none _ _ _ _ _ _, subst (λ (b : Bool). Opens c.args.port.now b []) (sym c.if-on.true) refl)

pub returns-in-Err-clause-began : goal.returns-in-Err-clause-began
returns-in-Err-clause-began g c = ([], rw c.in-Err.ensures.err (gains_none _ _ _ _ _ _), refl)
