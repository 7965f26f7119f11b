-- The first fault of an edit, told before anything is copied.
use Rattle.std.proofs.Common.{Bool, true, Option, Result, Some, Ok, Err, sym, subst}
use Rattle.std.specs.Result.{IfErr}
use Rattle.mos_edits.specs.Texts.{Text}
use Rattle.mos_edits.specs.KeyedLists.{Applied}
use Rattle.mos_edits.specs.Actions.{act}
use Rattle.mos_edits.specs.Orders.{Order, taken_out, shape, form_of, apply}
use Rattle.mos_values.specs.declared.action.Action as values
use Rattle.mos_edits.specs.declared.edit.Edit.TheVariants as edit
use Rattle.element_action.specs.declared.fault.ActFault.{ActFault}
use Rattle.element_action.specs.declared.fault.ActFault.TheVariants.{Missing, AlreadyThere, NoMemory}
use Rattle.element_action.specs.Answers.{IsCause, IsChecked}
use Rattle.order_table.specs.Rows.{without_rows}
use Rattle.element_action.proofs.EditLemmas.{act_there}
use Rattle.element_action.proofs.FormLemmas.{cause_of_order}

-- a cause stays one where memory may run out too
pub cause_of_copy : {X : Type 0} (takes : Bool) (d : Applied X) (f : ActFault) → IsCause takes d f → IsCause true d f
cause_of_copy takes d (Missing id) c = c
cause_of_copy takes d (AlreadyThere id) c = c
cause_of_copy takes d NoMemory c = tt

-- the fault of an action is that of its edit
pub refused_there : (r q : Text) (o : Order) (a : values.Action) (res : Result (Unit {0}) ActFault) → IsChecked (act shape (form_of a) o.stories) res → IfErr res (IsCause true (apply r (Some o) (edit.Act q a)))
refused_there r q o a (Ok x) h = tt
refused_there r q o a (Err f) h = subst (λ (p : Applied (Option Order)). IsCause true p f) (sym (act_there r q o a)) (cause_of_order true o.header (without_rows (taken_out (form_of a)) o.scripts) (act shape (form_of a) o.stories) f h)
