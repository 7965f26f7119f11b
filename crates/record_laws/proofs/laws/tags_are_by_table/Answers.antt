use Rattle.record_laws.proofs.Begun.{tags_by_table}
use Rattle.record_laws.proofs.laws.tags_are_by_table.Goals as goal

pub returns : goal.returns
returns c = tags_by_table
