use Rattle.record_laws.proofs.Contents.{records_by_table}
use Rattle.record_laws.proofs.Messages.{messages_by_table}
use Rattle.record_laws.proofs.laws.messages_are_by_table.Goals as goal

pub returns : goal.returns
returns c = messages_by_table records_by_table c.messages_are_read.ensures
