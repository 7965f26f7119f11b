use Rattle.std.proofs.Common.{true, refl, ap, ◌∙◌, subst}
use Rattle.mos_edits.specs.KeyedLists.ActFault.{Missing}
use Rattle.mos_edits.specs.Orders.{StorySend, apply}
use Rattle.mos_edits.specs.declared.edit.Edit.TheVariants as edit
use Rattle.element_action.specs.Answers.{IsTold}
use Rattle.element_action.proofs.FormLemmas.{told_cause}
use Rattle.element_action.proofs.EditLemmas.{script_none}
use Rattle.element_action.proofs.edits.send_script.Goals as goal

pub returns-in-None : goal.returns-in-None
returns-in-None c =
    let s = c.args.script.now in
    (told_cause true (apply s.ro c.args.order.now (edit.Script s)) (Missing s.ro) c.missing_order.result (ap (λ o. apply s.ro o (edit.Script s)) c.in-None.is ∙ script_none s.ro s) (subst (λ (x : StorySend). IsTold (Missing x.ro) c.missing_order.result) c.as_ref.ensures c.missing_order.ensures), refl)
