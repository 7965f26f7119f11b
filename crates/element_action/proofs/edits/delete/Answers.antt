use Rattle.std.proofs.Common.{false, refl, ap, ◌∙◌}
use Rattle.mos_edits.specs.KeyedLists.ActFault.{Missing}
use Rattle.mos_edits.specs.Orders.{apply}
use Rattle.mos_edits.specs.declared.edit.Edit.TheVariants as edit
use Rattle.element_action.proofs.FormLemmas.{told_cause}
use Rattle.element_action.proofs.EditLemmas.{delete_none, delete_there}
use Rattle.element_action.proofs.edits.delete.Goals as goal

pub returns-in-None : goal.returns-in-None
returns-in-None c =
    let ro = c.args.ro.now in
    (told_cause false (apply ro c.args.order.now (edit.Delete ro)) (Missing ro) c.missing_order.result (ap (λ o. apply ro o (edit.Delete ro)) c.in-None.is ∙ delete_none ro ro) c.missing_order.ensures, refl)

pub returns-in-Some : goal.returns-in-Some
returns-in-Some c =
    let ro = c.args.ro.now in
    ap (λ o. apply ro o (edit.Delete ro)) c.in-Some.is ∙ delete_there ro ro c.in-Some.field-0
