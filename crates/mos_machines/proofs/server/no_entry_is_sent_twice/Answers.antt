use Rattle.mos_machines.proofs.Growing.{server-grows}
use Rattle.mos_machines.proofs.ServerAnswers.{entry-sent}
use Rattle.mos_machines.proofs.server.no_entry_is_sent_twice.Goals as goal

pub returns : goal.returns
returns c = record { never_falls = λ fails s e i d r. (server-grows fails s e i d).rises r; sent = entry-sent }
