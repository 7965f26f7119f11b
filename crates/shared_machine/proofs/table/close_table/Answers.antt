use Rattle.std.proofs.Common.{rules}
use Rattle.shared_machine.proofs.CallLaws.{closes_same}
use Rattle.shared_machine.proofs.table.close_table.Goals as goal

pub returns : goal.returns
returns g c = closes_same _ _ _ _ _ _ _ _ _ _ (search rules) (search rules) (search rules) c.take_out.ensures
