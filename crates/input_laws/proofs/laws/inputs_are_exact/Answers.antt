use Rattle.input_laws.proofs.Streams.{inputs_exact}
use Rattle.input_laws.proofs.laws.inputs_are_exact.Goals as goal

pub returns : goal.returns
returns c = inputs_exact c.streams_are_exact.ensures c.open_is_read.ensures
