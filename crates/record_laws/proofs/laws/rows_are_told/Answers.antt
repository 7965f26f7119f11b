use Rattle.record_laws.proofs.RowsTold.{rows_told}
use Rattle.record_laws.proofs.laws.rows_are_told.Goals as goal

pub returns : goal.returns
returns c = rows_told c.faults_are_first.ensures
