use Rattle.record_laws.proofs.Contents.{records_by_table}
use Rattle.record_laws.proofs.laws.records_are_by_table.Goals as goal

pub returns : goal.returns
returns c = records_by_table
