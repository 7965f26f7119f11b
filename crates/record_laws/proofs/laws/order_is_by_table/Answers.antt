use Rattle.record_laws.proofs.FieldFaults.{order_by_table}
use Rattle.record_laws.proofs.laws.order_is_by_table.Goals as goal

pub returns : goal.returns
returns c = order_by_table
