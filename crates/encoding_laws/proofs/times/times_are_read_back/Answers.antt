use Rattle.encoding_laws.proofs.TimeLaws.{times_back}
use Rattle.encoding_laws.proofs.times.times_are_read_back.Goals as goal

pub returns : goal.returns
returns c = times_back
