use Rattle.mos_rejections.proofs.RejectionLaws.{rejections_apart}
use Rattle.mos_rejections.proofs.laws.rejections_are_apart.Goals as goal

pub returns : goal.returns
returns c = rejections_apart
