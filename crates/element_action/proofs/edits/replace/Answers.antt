use Rattle.std.proofs.Common.{true, Some, refl, sym, ap, subst, ◌∙◌}
use Rattle.mos_edits.specs.KeyedLists.ActFault.{Missing}
use Rattle.mos_edits.specs.KeyedLists.Applied.{Done}
use Rattle.mos_edits.specs.Orders.{Order, OrderBody, apply}
use Rattle.mos_edits.specs.declared.edit.Edit.TheVariants as edit
use Rattle.element_action.specs.Answers.{IsTold}
use Rattle.element_action.proofs.FormLemmas.{told_cause}
use Rattle.element_action.proofs.EditLemmas.{replace_none, replace_there}
use Rattle.element_action.proofs.edits.replace.Goals as goal

pub returns-in-None : goal.returns-in-None
returns-in-None c =
    let body = c.args.body.now in
    let ro = body.header.ro in (
      told_cause true (apply ro c.args.order.now (edit.Replace body)) (Missing ro) c.missing_order.result
          (ap (λ o. apply ro o (edit.Replace body)) c.in-None.is ∙ replace_none ro body)
          (subst (λ (b : OrderBody). IsTold (Missing b.header.ro) c.missing_order.result) c.body.view_is c.missing_order.ensures),
      refl,
    )

pub returns-in_ok-there-in-Some : goal.returns-in_ok-there-in-Some
returns-in_ok-there-in-Some c =
    let body = c.args.body.now in
    let ro = body.header.ro in
    ap (λ o. apply ro o (edit.Replace body)) c.in-Some.is ∙ replace_there ro c.in-Some.there body ∙ ap (λ (b : Order). Done (Some b)) (sym c.in_ok-there-in-Some.ensures)
