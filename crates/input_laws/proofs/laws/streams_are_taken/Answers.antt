use Rattle.input_laws.proofs.Streams.{streams_taken}
use Rattle.input_laws.proofs.laws.streams_are_taken.Goals as goal

pub returns : goal.returns
returns c = streams_taken c.open_is_read.ensures
