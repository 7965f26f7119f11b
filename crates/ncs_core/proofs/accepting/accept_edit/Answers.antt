use Rattle.std.proofs.Common.{◌≡◌, true, List, Option, None, sym, ap, ◌∙◌, subst}
use Rattle.mos_edits.specs.Entries.{Refusal, refusal}
use Rattle.mos_edits.specs.KeyedLists.Applied.{Done}
use Rattle.mos_edits.specs.Orders.{Order, edit_ro}
use Rattle.mos_edits.specs.Texts.{Text}
use Rattle.mos_machines.specs.Tables.{look}
use Rattle.ncs_core.specs.Accepting.{rows_over, leaves_all, IsRefusal}
use Rattle.ncs_core.proofs.AcceptedRows.{if-err, on-ok}
use Rattle.ncs_core.proofs.RestoredRows.{air-rows, air-acceptance}
use Rattle.ncs_core.proofs.accepting.accept_edit.Goals as goal

pub returns-then-leaves_all-clause-rows : goal.returns-then-leaves_all-clause-rows
returns-then-leaves_all-clause-rows c =
    let left : leaves_all c.args.orders.now c.args.edit.now ≡ true = ap (λ (z : List (Text × Option Order)). leaves_all z c.args.edit.now) (sym c.orders.view_is) ∙ sym c.if-leaves_all.ensures in
    on-ok c.stay_within.result c.stay_within.ensures.within (λ _. sym (air-rows c.args.orders.now c.args.edit.now c.has_ascending_ids.ensures left))

pub returns-then-leaves_all-clause-accepted : goal.returns-then-leaves_all-clause-accepted
returns-then-leaves_all-clause-accepted c =
    let rows = c.args.orders.now in
    let edit = c.args.edit.now in
    let left : leaves_all rows edit ≡ true = ap (λ (z : List (Text × Option Order)). leaves_all z c.args.edit.now) (sym c.orders.view_is) ∙ sym c.if-leaves_all.ensures in
    on-ok c.stay_within.result c.stay_within.ensures.within
    (λ w. sym (air-acceptance rows edit c.has_ascending_ids.ensures left) ∙ ap (refusal (Done (look None rows (edit_ro edit)))) ((λ i. rows_over rows (sym c.edit_ro.ensures i) (sym c.script_overrun.ensures i)) ∙ w))

pub returns-then-leaves_all-clause-fault : goal.returns-then-leaves_all-clause-fault
returns-then-leaves_all-clause-fault c =
    let rows = c.args.orders.now in
    let edit = c.args.edit.now in
    let o = look None rows (edit_ro edit) in
    let left : leaves_all rows edit ≡ true = ap (λ (z : List (Text × Option Order)). leaves_all z c.args.edit.now) (sym c.orders.view_is) ∙ sym c.if-leaves_all.ensures in
    let why = (λ i. refusal (Done o) (rows_over rows (c.edit_ro.ensures i) (c.script_overrun.ensures i))) ∙ air-acceptance rows edit c.has_ascending_ids.ensures left in
    if-err c.stay_within.result c.stay_within.ensures.full (λ f h. subst (λ (w : Option Refusal). IsRefusal w f) why (h o))
