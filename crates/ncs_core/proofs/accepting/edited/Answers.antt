use Rattle.std.proofs.Common.{◌≡◌, true, Option, None, ap, ◌∙◌, subst}
use Rattle.element_action.specs.Answers.{IsCause}
use Rattle.mos_edits.specs.KeyedLists.Applied.{Done}
use Rattle.mos_edits.specs.Orders.{Order, apply, edit_ro}
use Rattle.mos_machines.specs.Tables.{look}
use Rattle.ncs_core.proofs.accepting.edited.Goals as goal

pub returns-in-Ok-clause-made : goal.returns-in-Ok-clause-made
returns-in-Ok-clause-made c =
    let edit = c.args.edit.now in
    let e = c.order_in.ensures ∙ ap (look None c.args.orders.now) c.edit_ro.ensures in
    subst (λ (p : Option Order). apply (edit_ro edit) p edit ≡ Done c.in-Ok.order) e c.in-Ok.ensures.ok

pub returns-in-Err-clause-fault : goal.returns-in-Err-clause-fault
returns-in-Err-clause-fault c =
    let edit = c.args.edit.now in
    let e = c.order_in.ensures ∙ ap (look None c.args.orders.now) c.edit_ro.ensures in
    λ units. c.told.ensures true _ units (subst (λ (p : Option Order). IsCause true (apply (edit_ro edit) p edit) c.in-Err.fault) e c.in-Err.ensures.fault)
