use Rattle.input_laws.proofs.Streams.{rejections_still}
use Rattle.input_laws.proofs.laws.rejections_stay.Goals as goal

pub returns : goal.returns
returns c = rejections_still
