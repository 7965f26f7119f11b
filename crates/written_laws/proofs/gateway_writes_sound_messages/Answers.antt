use Rattle.written_laws.proofs.Machines.{device-answer}
use Rattle.written_laws.proofs.gateway_writes_sound_messages.Goals as goal

pub returns : goal.returns
returns c = record { answer = device-answer }
