use Rattle.record_laws.proofs.FieldFaults.{ends_by_table}
use Rattle.record_laws.proofs.laws.ends_are_by_table.Goals as goal

pub returns : goal.returns
returns c = ends_by_table
