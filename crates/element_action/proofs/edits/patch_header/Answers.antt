use Rattle.std.proofs.Common.{true, Some, refl, sym, ap, ◌∙◌}
use Rattle.mos_edits.specs.KeyedLists.ActFault.{Missing}
use Rattle.mos_edits.specs.KeyedLists.Applied.{Done}
use Rattle.mos_edits.specs.Orders.{Order, apply}
use Rattle.mos_edits.specs.declared.edit.Edit.TheVariants as edit
use Rattle.element_action.proofs.FormLemmas.{told_cause}
use Rattle.element_action.proofs.EditLemmas.{patch_none, patch_there}
use Rattle.element_action.proofs.edits.patch_header.Goals as goal

pub returns-in-None : goal.returns-in-None
returns-in-None c =
    let p = c.args.patch.now in
    (told_cause true (apply p.ro c.args.order.now (edit.Metadata p)) (Missing p.ro) c.missing_order.result (ap (λ o. apply p.ro o (edit.Metadata p)) c.in-None.is ∙ patch_none p.ro p) c.missing_order.ensures, refl)

pub returns-in_ok-apply_header-in-Some : goal.returns-in_ok-apply_header-in-Some
returns-in_ok-apply_header-in-Some c =
    let p = c.args.patch.now in
    ap (λ o. apply p.ro o (edit.Metadata p)) c.in-Some.is ∙ patch_there p.ro c.in-Some.there p ∙ ap (λ (b : Order). Done (Some b)) (sym c.in_ok-apply_header-in-Some.ensures.ok)
