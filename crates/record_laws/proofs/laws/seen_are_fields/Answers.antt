use Rattle.record_laws.proofs.Begun.{seen_fields}
use Rattle.record_laws.proofs.laws.seen_are_fields.Goals as goal

pub returns : goal.returns
returns c = seen_fields
