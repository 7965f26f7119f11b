use Rattle.std.proofs.Common.{refl, ap, ◌∙◌}
use Rattle.mos_edits.specs.KeyedLists.ActFault.{Missing}
use Rattle.mos_edits.specs.Actions.{act}
use Rattle.mos_edits.specs.Orders.{shape, form_of, taken_out, apply}
use Rattle.mos_edits.specs.declared.edit.Edit.TheVariants as edit
use Rattle.order_table.specs.Rows.{without_rows}
use Rattle.element_action.specs.Answers.{takes_memory}
use Rattle.element_action.proofs.FormLemmas.{told_cause, applied_there}
use Rattle.element_action.proofs.EditLemmas.{act_none, act_there}
use Rattle.element_action.proofs.edits.act_on.Goals as goal

pub returns-in-None : goal.returns-in-None
returns-in-None c =
    let ro = c.args.ro.now in
    let a = c.args.action.now in (
      told_cause (takes_memory (form_of a)) (apply ro c.args.order.now (edit.Act ro a)) (Missing ro) c.missing_order.result
          (ap (λ o. apply ro o (edit.Act ro a)) c.in-None.is ∙ act_none ro ro a) c.missing_order.ensures,
      refl,
    )

pub returns-in-Some : goal.returns-in-Some
returns-in-Some c =
    let ro = c.args.ro.now in
    let a = c.args.action.now in
    let there = c.in-Some.there in
    applied_there (takes_memory (form_of a)) (apply ro c.args.order.now (edit.Act ro a)) (without_rows (taken_out (form_of a)) there.scripts) (act shape (form_of a) there.stories) c.args.order.now there c.act.new.order c.act.result
    (ap (λ o. apply ro o (edit.Act ro a)) c.in-Some.is ∙ act_there ro ro there a) c.in-Some.is c.act.ensures.ok c.act.ensures.fault c.act.ensures.err
