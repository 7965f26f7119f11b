use Rattle.sending_laws.proofs.Sending.{sent-ascending, sent-once}
use Rattle.sending_laws.proofs.no_entry_is_sent_twice.Goals as goal

pub returns : goal.returns
returns c = record { ascending = sent-ascending; once = sent-once }
