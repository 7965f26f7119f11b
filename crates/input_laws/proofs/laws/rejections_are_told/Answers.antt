use Rattle.input_laws.proofs.Streams.{rejections_told}
use Rattle.input_laws.proofs.laws.rejections_are_told.Goals as goal

pub returns : goal.returns
returns c = rejections_told c.stream_rejections_are_read.ensures
