use Rattle.mos_rejections.proofs.OpenReads.{open_read}
use Rattle.mos_rejections.proofs.laws.open_is_read.Goals as goal

pub returns : goal.returns
returns c = open_read
