use Rattle.written_laws.proofs.ShortRuns.{short-run, short-writing}
use Rattle.written_laws.proofs.worlds_send_short_messages.Goals as goal

pub returns : goal.returns
returns c = record { unread = short-run; written = short-writing }
