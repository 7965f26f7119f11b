use Rattle.written_laws.proofs.Journals.{sound-after, sound-now}
use Rattle.written_laws.proofs.orders_are_sound.Goals as goal

pub returns : goal.returns
returns c = record { after = sound-after; now = sound-now }
