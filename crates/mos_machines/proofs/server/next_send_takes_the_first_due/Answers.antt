use Rattle.mos_machines.proofs.Least.{first_due-least, first_due-none}
use Rattle.mos_machines.proofs.server.next_send_takes_the_first_due.Goals as goal

pub returns : goal.returns
returns c = record { first = first_due-least; none = first_due-none }
