use Rattle.value_laws.proofs.EncodingLemmas.{read_back}
use Rattle.value_laws.proofs.encodings.written_is_read_back.Goals as goal

pub returns : goal.returns
returns c = read_back c.encodings_are_read.ensures c.events_pin_envelopes.ensures
