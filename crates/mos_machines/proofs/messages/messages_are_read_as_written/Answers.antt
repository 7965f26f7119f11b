use Rattle.mos_machines.proofs.Written.{seen-written, answered-reread, heard-reread, read-reread, got-reread}
use Rattle.mos_machines.proofs.messages.messages_are_read_as_written.Goals as goal

pub returns : goal.returns
returns c = record { read_again = seen-written; upper_answer = answered-reread; hear = heard-reread; read_upper = read-reread; read_answer = got-reread }
