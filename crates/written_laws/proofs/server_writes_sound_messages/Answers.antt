use Rattle.written_laws.proofs.Machines.{server-answer, server-journal}
use Rattle.written_laws.proofs.server_writes_sound_messages.Goals as goal

pub returns : goal.returns
returns c = record { answer = server-answer; journal = server-journal }
