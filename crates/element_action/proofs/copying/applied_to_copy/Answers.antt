use Rattle.std.proofs.Common.{true, Option, subst}
use Rattle.mos_edits.specs.Orders.{Order, apply, edit_ro}
use Rattle.element_action.specs.Answers.{IsCause, edit_takes_memory}
use Rattle.element_action.proofs.CheckLemmas.{cause_of_copy}
use Rattle.element_action.proofs.copying.applied_to_copy.Goals as goal

pub returns-in-Err-clause-fault : goal.returns-in-Err-clause-fault
returns-in-Err-clause-fault c =
    let e = c.args.edit.now in
    subst (λ (p : Option Order). IsCause true (apply (edit_ro e) p e) c.in-Err.fault) c.in_ok-made.ensures (cause_of_copy (edit_takes_memory e) (apply (edit_ro e) c.in_ok-made.made e) c.in-Err.fault c.in-Err.ensures.fault)
