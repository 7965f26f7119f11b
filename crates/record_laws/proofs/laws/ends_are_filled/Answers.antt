use Rattle.record_laws.proofs.Begun.{ends_filled}
use Rattle.record_laws.proofs.laws.ends_are_filled.Goals as goal

pub returns : goal.returns
returns c = ends_filled
