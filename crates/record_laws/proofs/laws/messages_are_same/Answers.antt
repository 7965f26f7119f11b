use Rattle.record_laws.proofs.Contents.{records_by_table}
use Rattle.record_laws.proofs.Messages.{messages_same}
use Rattle.record_laws.proofs.laws.messages_are_same.Goals as goal

pub returns : goal.returns
returns c = messages_same records_by_table
