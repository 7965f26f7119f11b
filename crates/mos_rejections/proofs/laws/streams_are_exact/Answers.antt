use Rattle.mos_rejections.proofs.UnitReading.{streams_exact}
use Rattle.mos_rejections.proofs.laws.streams_are_exact.Goals as goal

pub returns : goal.returns
returns c = streams_exact
