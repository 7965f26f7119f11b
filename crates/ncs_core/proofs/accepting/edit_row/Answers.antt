use Rattle.std.proofs.Common.{◌≡◌, List, Option, None, sym, ap, ◌∙◌, subst}
use Rattle.element_action.specs.Answers.{IsCause, edit_takes_memory}
use Rattle.mos_edits.specs.Entries.{Entry, Refusal, entry_of, over_send, refusal}
use Rattle.mos_edits.specs.KeyedLists.Applied.{Done}
use Rattle.mos_edits.specs.Orders.{Order, apply, edit_ro}
use Rattle.mos_edits.specs.Sizes.{at_most_64_bits, list_all_units}
use Rattle.mos_edits.specs.Texts.{Text}
use Rattle.mos_machines.specs.Tables.{put_row}
use Rattle.order_table.proofs.Looked.{put-put}
use Rattle.ncs_core.specs.Accepting.{applied_to, rows_over, rows_after, rows_acceptance, IsRefusal}
use Rattle.ncs_core.specs.State.{all_units, one_header}
use Rattle.ncs_core.proofs.AcceptedRows.{row-there, edited-rows, found-order, held-order, done-rows, done-acceptance}
use Rattle.ncs_core.proofs.KeptUnits.{former-within, units-exchanged}
use Rattle.ncs_core.proofs.accepting.edit_row.Goals as goal

pub exchange-requires-2 : goal.exchange-requires-2
exchange-requires-2 c = row-there c.know.new.orders c.exchange.new.self c.edit_ro-ro.result.now None c.exchange.ensures.table

pub exchanged_units-units-requires : goal.exchanged_units-units-requires
exchanged_units-units-requires c =
    let known = c.know.new.orders in
    let r = c.edit_ro-ro.result.now in
    let total = c.requires ∙ sym c.in_ok-know.ensures.units in
    let held = c.as_ref.ensures.value ∙ sym (found-order known r c.exchange.new.value c.exchange.ensures.value) in
    let former = c.in_ok-former-in-Ok.ensures ∙ ap (λ (o : Option Order). at_most_64_bits (list_all_units (one_header o))) held in
    former-within r c.apply-applied.new.order known c.has_ascending_ids.ensures c.args.units c.in_ok-former-in-Ok.field-0 c.in_ok-new-in-Ok.field-0 total c.ranges.units.fits former

pub within-requires : goal.within-requires
within-requires c =
    let known = c.know.new.orders in
    let r = c.edit_ro-ro.result.now in
    let total = c.requires ∙ sym c.in_ok-know.ensures.units in
    let held = c.as_ref.ensures.value ∙ sym (found-order known r c.exchange.new.value c.exchange.ensures.value) in
    let former = c.in_ok-former-in-Ok.ensures ∙ ap (λ (o : Option Order). at_most_64_bits (list_all_units (one_header o))) held in
    let o = c.apply-applied.new.order in
    let new = c.in_ok-new-in-Ok.ensures ∙ ap (λ (x : Option Order). at_most_64_bits (list_all_units (one_header x))) c.as_ref-2.ensures.value in
    let put : c.exchange-2.new.self ≡ put_row r o known = c.exchange-2.ensures.table ∙ (ap (put_row r o) c.exchange.ensures.table ∙ put-put r None o known) in
    c.exchanged_units-units.ensures
    ∙ (units-exchanged r o known c.has_ascending_ids.ensures c.args.units c.in_ok-former-in-Ok.field-0 c.in_ok-new-in-Ok.field-0 total c.ranges.units.fits former new
    ∙ ap (λ (z : List (Text × Option Order)). at_most_64_bits (all_units z)) (sym put))

pub returns-in-Ok-within-clause-rows : goal.returns-in-Ok-within-clause-rows
returns-in-Ok-within-clause-rows c =
    let rows = c.args.orders.now in
    let e : Entry = entry_of c.args.edit.now in
    let r = c.edit_ro-ro.result.now in
    let n : r ≡ e.ro = c.edit_ro-ro.ensures in
    let o = c.apply-applied.new.order in
    let same = held-order rows c.know.new.orders r e.ro c.exchange.new.value c.in_ok-know.ensures.same c.exchange.ensures.value n in
    let done : applied_to rows e ≡ Done o = ap (λ (p : Option Order). apply e.ro p e.edit) (sym same) ∙ c.in-Ok.ensures.ok in
    let edited = edited-rows rows c.know.new.orders c.exchange.new.self c.exchange-2.new.self r o c.in_ok-know.ensures.rows c.exchange.ensures.table c.exchange-2.ensures.table in
    edited ∙ done-rows rows e r o n done

pub returns-in-Ok-within-clause-accepted : goal.returns-in-Ok-within-clause-accepted
returns-in-Ok-within-clause-accepted c =
    let rows = c.args.orders.now in
    let e : Entry = entry_of c.args.edit.now in
    let r = c.edit_ro-ro.result.now in
    let n : r ≡ e.ro = c.edit_ro-ro.ensures in
    let o = c.apply-applied.new.order in
    let same = held-order rows c.know.new.orders r e.ro c.exchange.new.value c.in_ok-know.ensures.same c.exchange.ensures.value n in
    let done : applied_to rows e ≡ Done o = ap (λ (p : Option Order). apply e.ro p e.edit) (sym same) ∙ c.in-Ok.ensures.ok in
    let edited = edited-rows rows c.know.new.orders c.exchange.new.self c.exchange-2.new.self r o c.in_ok-know.ensures.rows c.exchange.ensures.table c.exchange-2.ensures.table in
    sym (done-acceptance rows e r o n done) ∙ ap (refusal (Done o)) ((λ i. rows_over (sym edited i) r (sym c.script_overrun.ensures i)) ∙ c.in-Ok-within.ensures.within)

pub returns-in-Err-within-clause-fault : goal.returns-in-Err-within-clause-fault
returns-in-Err-within-clause-fault c =
    let rows = c.args.orders.now in
    let e : Entry = entry_of c.args.edit.now in
    let r = c.edit_ro-ro.result.now in
    let n : r ≡ e.ro = c.edit_ro-ro.ensures in
    let o = c.apply-applied.new.order in
    let same = held-order rows c.know.new.orders r e.ro c.exchange.new.value c.in_ok-know.ensures.same c.exchange.ensures.value n in
    let done : applied_to rows e ≡ Done o = ap (λ (p : Option Order). apply e.ro p e.edit) (sym same) ∙ c.in-Ok.ensures.ok in
    let edited = edited-rows rows c.know.new.orders c.exchange.new.self c.exchange-2.new.self r o c.in_ok-know.ensures.rows c.exchange.ensures.table c.exchange-2.ensures.table in
    let why : refusal (Done o) (rows_over c.exchange-2.new.self r c.script_overrun.result) ≡ rows_acceptance rows e = (λ i. refusal (Done o) (rows_over (edited i) r (c.script_overrun.ensures i))) ∙ done-acceptance rows e r o n done in
    subst (λ (z : Option Refusal). IsRefusal z c.in-Err-within.fault) why (c.in-Err-within.ensures.full o)

pub returns-in-Err-clause-fault : goal.returns-in-Err-clause-fault
returns-in-Err-clause-fault c =
    let rows = c.args.orders.now in
    let e : Entry = entry_of c.args.edit.now in
    let r = c.edit_ro-ro.result.now in
    let same = held-order rows c.know.new.orders r e.ro c.exchange.new.value c.in_ok-know.ensures.same c.exchange.ensures.value c.edit_ro-ro.ensures in
    c.told.ensures _ (applied_to rows e) (rows_over (rows_after rows e) e.ro (over_send e.edit)) (subst (λ (p : Option Order). IsCause (edit_takes_memory c.args.edit.now) (apply (edit_ro c.args.edit.now) p c.args.edit.now) c.in-Err.fault) same c.in-Err.ensures.fault)
