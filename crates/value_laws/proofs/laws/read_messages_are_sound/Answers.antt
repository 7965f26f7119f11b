use Rattle.value_laws.proofs.ReadMessages.{read_is_sound}
use Rattle.value_laws.proofs.laws.read_messages_are_sound.Goals as goal

pub returns : goal.returns
returns c = read_is_sound
