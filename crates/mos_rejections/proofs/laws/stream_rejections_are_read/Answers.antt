use Rattle.mos_rejections.proofs.RejectionLaws.{stream_rejections_read}
use Rattle.mos_rejections.proofs.laws.stream_rejections_are_read.Goals as goal

pub returns : goal.returns
returns c = stream_rejections_read
