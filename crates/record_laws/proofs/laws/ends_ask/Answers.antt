use Rattle.record_laws.proofs.Begun.{ends_ask}
use Rattle.record_laws.proofs.laws.ends_ask.Goals as goal

pub returns : goal.returns
returns c = ends_ask
