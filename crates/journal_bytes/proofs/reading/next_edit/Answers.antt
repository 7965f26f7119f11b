use Rattle.journal_bytes.proofs.JournalLemmas.{takes_message}
use Rattle.journal_bytes.proofs.reading.next_edit.Goals as goal

pub returns-in-Some-clause-takes : goal.returns-in-Some-clause-takes
returns-in-Some-clause-takes c = λ bytes found h. takes_message bytes found c.next.new.self c.in-Some.envelope _ c.edit_inside.result c.edit_inside.ensures (c.in-Some.ensures.taken bytes found h)
