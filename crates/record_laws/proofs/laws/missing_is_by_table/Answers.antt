use Rattle.record_laws.proofs.FieldFaults.{missing_by_table}
use Rattle.record_laws.proofs.laws.missing_is_by_table.Goals as goal

pub returns : goal.returns
returns c = missing_by_table
