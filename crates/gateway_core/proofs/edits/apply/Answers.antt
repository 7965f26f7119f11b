use Rattle.std.proofs.Common.{sym, ap, ◌∙◌, subst}
use Rattle.mos_edits.specs.Orders.{apply}
use Rattle.gateway_core.specs.Reads.{edit_of, IsTold}
use Rattle.gateway_core.proofs.ReadSteps.{apply-none}
use Rattle.gateway_core.proofs.edits.apply.Goals as goal

pub returns-in-None-clause-fault : goal.returns-in-None-clause-fault
returns-in-None-clause-fault c =
    let ro = c.args.ro.now in
    subst (λ d. IsTold d c.missing.result) (sym (ap (λ o. apply ro o (edit_of ro c.args.change)) c.in-None.is ∙ apply-none ro c.args.change)) c.missing.ensures
