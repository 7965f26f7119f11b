use Rattle.mos_edits.proofs.Journals.{accepted_applies, entry_count_push, order_now_other, entry_count_other}
use Rattle.mos_edits.proofs.journal.accepted_entries_apply.Goals as goal

pub returns : goal.returns
returns c = record { applies = accepted_applies; counts = entry_count_push; others = order_now_other; other_counts = entry_count_other }
