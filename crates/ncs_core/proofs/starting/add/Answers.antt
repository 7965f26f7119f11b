use Rattle.std.proofs.Common.{◌≡◌, Option, List, [], ◌∷◌, ◌++◌, refl, sym, ap, ◌∙◌, subst}
use Rattle.mos_edits.specs.Entries.{Entry, Refusal, entry_of}
use Rattle.script_numbers.specs.Numbers.{AreNumbers}
use Rattle.ncs_core.specs.Accepting.{IsRefusal}
use Rattle.ncs_core.proofs.AcceptedRows.{entry-is, acceptance-here, orders-added}
use Rattle.ncs_core.proofs.starting.add.Goals as goal

pub returns-in-Ok-clause-orders : goal.returns-in-Ok-clause-orders
returns-in-Ok-clause-orders c =
    let e = c.args.entry.now in
    let is : entry_of e.edit ≡ e = entry-is e e.edit c.has_ro_of_edit.ensures refl in
    orders-added c.args.journal.now c.add_to.new.journal (entry_of e.edit) e c.args.orders.now c.add_to.new.orders c.requires.orders is c.in-Ok.ensures.rows c.in-Ok.ensures.journal

pub returns-in-Ok-clause-accepted : goal.returns-in-Ok-clause-accepted
returns-in-Ok-clause-accepted c =
    let e = c.args.entry.now in
    let is : entry_of e.edit ≡ e = entry-is e e.edit c.has_ro_of_edit.ensures refl in
    sym (acceptance-here c.args.journal.now c.args.journal.now (entry_of e.edit) e c.args.orders.now c.requires.orders c.has_ascending_ids.ensures is refl) ∙ c.in-Ok.ensures.accepted

pub returns-in-Err-clause-fault : goal.returns-in-Err-clause-fault
returns-in-Err-clause-fault c =
    let e = c.args.entry.now in
    let is : entry_of e.edit ≡ e = entry-is e e.edit c.has_ro_of_edit.ensures refl in
    subst (λ (why : Option Refusal). IsRefusal why c.in-Err.fault) (acceptance-here c.args.journal.now c.args.journal.now (entry_of e.edit) e c.args.orders.now c.requires.orders c.has_ascending_ids.ensures is refl) c.in-Err.ensures.fault

pub returns-in-Ok-clause-scripts : goal.returns-in-Ok-clause-scripts
returns-in-Ok-clause-scripts c =
    let e = c.args.entry.now in
    let is : entry_of e.edit ≡ e = entry-is e e.edit c.has_ro_of_edit.ensures refl in
    let accepted = sym (acceptance-here c.args.journal.now c.args.journal.now (entry_of e.edit) (entry_of e.edit) c.args.orders.now c.requires.orders c.has_ascending_ids.ensures refl refl) ∙ c.in-Ok.ensures.accepted in
    let added = c.in-Ok.ensures.scripts c.requires.scripts accepted in
    subst (λ (j : List Entry). AreNumbers j c.add_to.new.scripts) (ap (λ (y : Entry). c.args.journal.now ++ y ∷ []) is ∙ sym c.in-Ok.ensures.journal) added
