use Rattle.std.proofs.Common.{◌∷◌, ◌++◌, [], sym, ap, ◌∙◌, subst}
use Rattle.mos_edits.specs.Orders.{edit_ro}
use Rattle.mos_edits.specs.Entries.{entry_of, entry_count, acceptance}
use Rattle.script_numbers.specs.Numbers.{AreNumbers}
use Rattle.ncs_core.proofs.starting.add_to.Goals as goal

pub returns-clause-scripts : goal.returns-clause-scripts
returns-clause-scripts c = λ h a.
    let journal = c.args.journal.now in
    let e = c.edit-4.ensures in
    subst (λ d. AreNumbers (journal ++ entry_of d ∷ []) c.accept.new.self) e
    (c.accept.ensures.numbers journal (c.reserve.ensures.numbers journal h) (ap (λ d. acceptance journal (entry_of d)) e ∙ a) (c.entry_count-number.ensures ∙ ap (entry_count journal) (c.edit_ro.ensures ∙ ap edit_ro (c.edit-2.ensures ∙ sym e))))
