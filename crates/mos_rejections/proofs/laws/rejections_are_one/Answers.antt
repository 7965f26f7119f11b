use Rattle.mos_rejections.proofs.RejectionLaws.{rejections_one}
use Rattle.mos_rejections.proofs.laws.rejections_are_one.Goals as goal

pub returns : goal.returns
returns c = rejections_one
