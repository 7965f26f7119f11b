use Rattle.input_laws.proofs.Streams.{ends_told}
use Rattle.input_laws.proofs.laws.ends_are_told.Goals as goal

pub returns : goal.returns
returns c = ends_told c.open_is_read.ensures
