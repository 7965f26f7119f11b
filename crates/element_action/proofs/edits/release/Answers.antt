use Rattle.std.proofs.Common.{false, refl, sym, ap, ◌∙◌}
use Rattle.mos_edits.specs.KeyedLists.ActFault.{Missing}
use Rattle.mos_edits.specs.KeyedLists.Applied.{Done}
use Rattle.mos_edits.specs.Orders.{apply}
use Rattle.mos_edits.specs.declared.edit.Edit.TheVariants as edit
use Rattle.element_action.proofs.FormLemmas.{told_cause}
use Rattle.element_action.proofs.EditLemmas.{air_none, air_there}
use Rattle.element_action.proofs.edits.release.Goals as goal

pub returns-in-None : goal.returns-in-None
returns-in-None c =
    let ro = c.args.ro.now in (
      told_cause false (apply ro c.args.order.now (edit.Air ro c.args._air)) (Missing ro) c.missing_order.result
          (ap (λ o. apply ro o (edit.Air ro c.args._air)) c.in-None.is ∙ air_none ro ro c.args._air) c.missing_order.ensures,
      refl,
    )

pub returns-in-Some : goal.returns-in-Some
returns-in-Some c =
    let ro = c.args.ro.now in
    ap (λ o. apply ro o (edit.Air ro c.args._air)) c.in-Some.is ∙ air_there ro ro c.in-Some.field-0 c.args._air ∙ ap (λ o. Done o) (sym c.in-Some.is)
