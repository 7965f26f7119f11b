use Rattle.record_laws.proofs.Contents.{records_by_table}
use Rattle.record_laws.proofs.Messages.{beginnings_by_table}
use Rattle.record_laws.proofs.laws.beginnings_are_by_table.Goals as goal

pub returns : goal.returns
returns c = beginnings_by_table records_by_table c.beginnings_are_read.ensures
