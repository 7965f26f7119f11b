use Rattle.input_laws.proofs.Streams.{refusals_shown}
use Rattle.input_laws.proofs.laws.refusals_are_shown.Goals as goal

pub returns : goal.returns
returns c = refusals_shown c.streams_are_exact.ensures
