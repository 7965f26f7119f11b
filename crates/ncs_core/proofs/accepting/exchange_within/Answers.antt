use Rattle.std.proofs.Common.{List, Option, sym, ap, ◌∙◌, subst}
use Rattle.mos_edits.specs.Entries.{refusal}
use Rattle.mos_edits.specs.KeyedLists.Applied.{Done}
use Rattle.mos_edits.specs.Orders.{Order}
use Rattle.mos_edits.specs.Sizes.{at_most_64_bits, list_all_units}
use Rattle.mos_edits.specs.Texts.{Text}
use Rattle.mos_machines.specs.Tables.{put_row}
use Rattle.ncs_core.specs.Accepting.{rows_over, IsRefusal}
use Rattle.ncs_core.specs.State.{all_units, one_header}
use Rattle.ncs_core.proofs.AcceptedRows.{row-there, found-order, look-back}
use Rattle.ncs_core.proofs.KeptUnits.{back-units, former-within, units-exchanged}
use Rattle.ncs_core.proofs.accepting.exchange_within.Goals as goal

pub exchanged_units-units-requires : goal.exchanged_units-units-requires
exchanged_units-units-requires c =
    let former = c.in_ok-former.ensures ∙ ap (λ (o : Option Order). at_most_64_bits (list_all_units (one_header o))) c.order_in.ensures in
    former-within c.args.ro.now c.args.order.now c.args.orders.now c.has_ascending_ids.ensures c.args.units c.in_ok-former.former c.in_ok-new.new c.requires.units c.ranges.units.fits former

pub within-requires : goal.within-requires
within-requires c =
    let former = c.in_ok-former.ensures ∙ ap (λ (o : Option Order). at_most_64_bits (list_all_units (one_header o))) c.order_in.ensures in
    let new = c.in_ok-new.ensures ∙ ap (λ (o : Option Order). at_most_64_bits (list_all_units (one_header o))) c.as_ref.ensures.value in
    c.exchanged_units-units.ensures
    ∙ (units-exchanged c.args.ro.now c.args.order.now c.args.orders.now c.has_ascending_ids.ensures c.args.units c.in_ok-former.former c.in_ok-new.new c.requires.units c.ranges.units.fits former new
    ∙ ap (λ (rows : List (Text × Option Order)). at_most_64_bits (all_units rows)) (sym c.exchange.ensures.table))

pub exchange-requires-in-Err : goal.exchange-requires-in-Err
exchange-requires-in-Err c = row-there c.args.orders.now c.exchange.new.self c.args.ro.now c.args.order.now c.exchange.ensures.table

pub returns-in-Ok-clause-order : goal.returns-in-Ok-clause-order
returns-in-Ok-clause-order c = sym (found-order c.args.orders.now c.args.ro.now c.exchange.new.value c.exchange.ensures.value)

pub returns-in-Err-clause-fault : goal.returns-in-Err-clause-fault
returns-in-Err-clause-fault c = subst (λ (rows : List (Text × Option Order)). IsRefusal (refusal (Done c.args.order.now) (rows_over rows c.args.ro.now c.args.next)) c.in-Err.fault) c.exchange.ensures.table (c.in-Err.ensures.full c.args.order.now)

pub returns-in-Err-clause-err : goal.returns-in-Err-clause-err
returns-in-Err-clause-err c =
    look-back c.args.orders.now c.exchange.new.self c.exchange-in-Err.new.self c.args.ro.now c.args.order.now c.exchange.new.value c.exchange.ensures.table c.exchange-in-Err.ensures.table
    (found-order c.args.orders.now c.args.ro.now c.exchange.new.value c.exchange.ensures.value)

pub returns-in-Err-clause-kept : goal.returns-in-Err-clause-kept
returns-in-Err-clause-kept c =
    ap (λ (rows : List (Text × Option Order)). all_units rows) (c.exchange-in-Err.ensures.table ∙ ap (put_row c.args.ro.now c.exchange.new.value) c.exchange.ensures.table)
    ∙ back-units c.args.ro.now c.args.order.now c.exchange.new.value c.args.orders.now c.has_ascending_ids.ensures (sym (found-order c.args.orders.now c.args.ro.now c.exchange.new.value c.exchange.ensures.value))
