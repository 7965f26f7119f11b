use Rattle.journal_bytes.proofs.JournalLemmas.{follows_more, follows_none, is_no_entry}
use Rattle.journal_bytes.proofs.reading.take_entries.Goals as goal

pub message-preserved : goal.message-preserved
message-preserved c = λ bytes w. follows_more bytes c.message.decoder c.next_edit.new.decoder c.message.entries.items c.push_entry.new.entries.items c.in-Some-carried.edit c.in-Some.carried (c.message.invariant bytes w) (c.in-Some.ensures.takes bytes) c.in-Some-carried.is c.in-Ok.ensures.ok

pub returns-in-None-clause-damaged : goal.returns-in-None-clause-damaged
returns-in-None-clause-damaged c = λ bytes w _. is_no_entry bytes c.message.decoder c.next_edit.new.decoder c.message.entries.items c.in-Some.carried (c.message.invariant bytes w) (c.in-Some.ensures.takes bytes) c.in-None.is

pub returns-clause-read : goal.returns-clause-read
returns-clause-read c = λ bytes w. follows_none bytes c.message.decoder c.next_edit.new.decoder c.message.entries.items (c.message.invariant bytes w) (c.in_default.ensures.takes bytes)
