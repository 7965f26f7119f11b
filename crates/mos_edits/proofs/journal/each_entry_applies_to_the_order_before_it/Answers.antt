use Rattle.mos_edits.proofs.Journals.{accepted-journal}
use Rattle.mos_edits.proofs.journal.each_entry_applies_to_the_order_before_it.Goals as goal

pub returns : goal.returns
returns c = λ journal a. (accepted-journal journal a).applies
