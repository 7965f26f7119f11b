use Rattle.written_laws.proofs.SoundRuns.{sound-run, sound-writing}
use Rattle.written_laws.proofs.worlds_send_sound_messages.Goals as goal

pub returns : goal.returns
returns c = record { worlds = sound-run; written = sound-writing }
