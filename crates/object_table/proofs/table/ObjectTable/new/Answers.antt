use Rattle.object_table.proofs.Kept.{kept-none}
use Rattle.object_table.proofs.table.ObjectTable.new.Goals as goal

pub invariant_of-result : goal.invariant_of-result
invariant_of-result c = kept-none c.new.result.items c.new-2.result c.new.ensures.items c.new-2.ensures
