use Rattle.mos_rejections.proofs.UnitReading.{runs_exact}
use Rattle.mos_rejections.proofs.laws.runs_are_exact.Goals as goal

pub returns : goal.returns
returns c = runs_exact
