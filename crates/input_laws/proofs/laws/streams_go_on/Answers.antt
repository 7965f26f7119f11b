use Rattle.input_laws.proofs.Going.{streams_going}
use Rattle.input_laws.proofs.laws.streams_go_on.Goals as goal

pub returns : goal.returns
returns c = streams_going c.streams_are_exact.ensures c.open_is_read.ensures
