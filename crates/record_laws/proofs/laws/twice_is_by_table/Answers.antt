use Rattle.record_laws.proofs.FieldFaults.{twice_by_table}
use Rattle.record_laws.proofs.laws.twice_is_by_table.Goals as goal

pub returns : goal.returns
returns c = twice_by_table
