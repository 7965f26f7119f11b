use Rattle.std.proofs.Common.{◌≡◌, Some, sym, ap, ◌∙◌, subst}
use Rattle.mos_edits.specs.KeyedLists.Applied.{Done}
use Rattle.mos_edits.specs.Actions.{act}
use Rattle.mos_edits.specs.Orders.{apply, shape, form_of, taken_out}
use Rattle.order_table.specs.Rows.{without_rows}
use Rattle.element_action.specs.Answers.{takes_memory}
use Rattle.gateway_core.specs.Reads.{edit_of, IsTold}
use Rattle.gateway_core.proofs.TableSteps.{on-ok}
use Rattle.gateway_core.proofs.ReadSteps.{apply-header, apply-act, apply-ready, apply-script, if-err, told}
use Rattle.gateway_core.proofs.edits.change_order.Goals as goal

pub returns-in_ok-apply_header-in-Header-clause-ok : goal.returns-in_ok-apply_header-in-Header-clause-ok
returns-in_ok-apply_header-in-Header-clause-ok c =
    let ro = c.args.ro.now in
    let o = c.args.order.now in
    ap (λ x. apply ro (Some o) (edit_of ro x)) c.in-Header.is
    ∙ (apply-header ro o c.in-Header.patch.now ∙ ap (λ x. Done (Some x)) (sym c.in_ok-apply_header-in-Header.ensures.ok))

pub returns-in-Action-clause-ok : goal.returns-in-Action-clause-ok
returns-in-Action-clause-ok c =
    let ro = c.args.ro.now in
    let o = c.args.order.now in
    on-ok c.act.result c.act.ensures.ok (λ e. ap (λ x. apply ro (Some o) (edit_of ro x)) c.in-Action.is ∙ (apply-act ro ro o c.in-Action.action.now ∙ e))

pub returns-in-Action-clause-fault : goal.returns-in-Action-clause-fault
returns-in-Action-clause-fault c =
    let ro = c.args.ro.now in
    let o = c.args.order.now in
    if-err c.act.result _ _ (λ f h. told (takes_memory (form_of c.in-Action.action.now)) o.header (without_rows (taken_out (form_of c.in-Action.action.now)) o.scripts) (act shape (form_of c.in-Action.action.now) o.stories) _ f (ap (λ x. apply ro (Some o) (edit_of ro x)) c.in-Action.is ∙ apply-act ro ro o c.in-Action.action.now) h) c.act.ensures.fault

pub returns-in-Script-clause-ok : goal.returns-in-Script-clause-ok
returns-in-Script-clause-ok c =
    let ro = c.args.ro.now in
    let o = c.args.order.now in
    on-ok c.put_script.result c.put_script.ensures.ok (λ e. ap (λ x. apply ro (Some o) (edit_of ro x)) c.in-Script.is ∙ (apply-script ro o c.in-Script.script.now ∙ e))

pub returns-in-Script-clause-fault : goal.returns-in-Script-clause-fault
returns-in-Script-clause-fault c =
    let ro = c.args.ro.now in
    let o = c.args.order.now in
    if-err c.put_script.result _ _ (λ f h. subst (λ d. IsTold d f) (sym (ap (λ x. apply ro (Some o) (edit_of ro x)) c.in-Script.is ∙ apply-script ro o c.in-Script.script.now)) h) c.put_script.ensures.fault

pub returns-in-Release-clause-ok : goal.returns-in-Release-clause-ok
returns-in-Release-clause-ok c =
    let ro = c.args.ro.now in
    let o = c.args.order.now in
    ap (λ x. apply ro (Some o) (edit_of ro x)) c.in-Release.is ∙ apply-ready ro ro o
