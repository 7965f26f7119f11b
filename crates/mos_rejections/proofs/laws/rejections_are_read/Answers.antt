use Rattle.mos_rejections.proofs.RejectionLaws.{rejections_read}
use Rattle.mos_rejections.proofs.laws.rejections_are_read.Goals as goal

pub returns : goal.returns
returns c = rejections_read
