use Rattle.order_table.proofs.AscendingRows.{ascending-after-all}
use Rattle.order_table.proofs.table.OrderTable.put_all.Goals as goal

pub invariant_of-self : goal.invariant_of-self
invariant_of-self g c = ascending-after-all c.args.new.items c.self.inside.rows.items c.put_all_in.new.rows.items c.put_all_in.result c.put_all_in.ensures.ok c.put_all_in.ensures.err c.self.invariant
