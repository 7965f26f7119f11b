use Rattle.mos_machines.proofs.Written.{next-written, heard-written, read-written, ask-written}
use Rattle.mos_machines.proofs.messages.machines_write_what_can_be_read.Goals as goal

pub returns : goal.returns
returns c = record { next_send = next-written; hear = heard-written; read_upper = read-written; next_ask = ask-written }
