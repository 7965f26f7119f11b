use Rattle.std.proofs.Common.{sym, ap, ◌∙◌, subst}
use Rattle.mos_edits.specs.Orders.{apply}
use Rattle.gateway_core.specs.Parts.{decks_of}
use Rattle.gateway_core.specs.Reads.{edit_of, IsTold}
use Rattle.gateway_core.proofs.ReadSteps.{refused}
use Rattle.gateway_core.proofs.reading.read_in_step.Goals as goal

pub returns-in_ok-answer-in-Err-clause-answer : goal.returns-in_ok-answer-in-Err-clause-answer
returns-in_ok-answer-in-Err-clause-answer c =
    let ro = c.args.ro.now in
    let k = c.args.known.now in
    let fault = subst (λ o. IsTold (apply ro o (edit_of ro c.args.change)) c.in-Err.fault) (ap (λ x. x.held) c.known.view_is) c.in-Err.ensures.fault in
    refused k (decks_of c.args.decks) ro c.args.change c.in-Err.fault c.in_ok-answer-in-Err.answer c.requires fault c.in_ok-answer-in-Err.ensures
