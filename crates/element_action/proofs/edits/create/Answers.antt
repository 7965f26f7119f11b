use Rattle.std.proofs.Common.{true, Some, refl, sym, ap, subst, ◌∙◌}
use Rattle.mos_edits.specs.KeyedLists.ActFault.{AlreadyThere}
use Rattle.mos_edits.specs.KeyedLists.Applied.{Done}
use Rattle.mos_edits.specs.Orders.{Order, OrderBody, apply}
use Rattle.mos_edits.proofs.Applying.{apply-create, apply-created}
use Rattle.mos_edits.specs.declared.edit.Edit.TheVariants as edit
use Rattle.element_action.specs.Answers.{IsTold}
use Rattle.element_action.proofs.FormLemmas.{told_cause}
use Rattle.element_action.proofs.edits.create.Goals as goal

pub returns-in-Some : goal.returns-in-Some
returns-in-Some c =
    let body = c.args.body.now in
    let ro = body.header.ro in (
      told_cause true (apply ro c.args.order.now (edit.Create body)) (AlreadyThere ro) c.order_there.result
          (ap (λ o. apply ro o (edit.Create body)) c.in-Some.is ∙ apply-created ro c.in-Some.field-0 body)
          (subst (λ (b : OrderBody). IsTold (AlreadyThere b.header.ro) c.order_there.result) c.body.view_is c.order_there.ensures),
      refl,
    )

pub returns-in_ok-from_body-in-None : goal.returns-in_ok-from_body-in-None
returns-in_ok-from_body-in-None c =
    let body = c.args.body.now in
    let ro = body.header.ro in
    ap (λ o. apply ro o (edit.Create body)) c.in-None.is ∙ apply-create ro body ∙ ap (λ (b : Order). Done (Some b)) (sym c.in_ok-from_body-in-None.ensures)
