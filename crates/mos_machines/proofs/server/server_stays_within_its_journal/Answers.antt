use Rattle.mos_machines.proofs.Growing.{server-grows, started-within}
use Rattle.mos_machines.proofs.server.server_stays_within_its_journal.Goals as goal

pub returns : goal.returns
returns c = record { start = started-within; step = λ fails s e i d. (server-grows fails s e i d).within }
