use Rattle.order_table.proofs.AscendingRows.{ascending-after}
use Rattle.order_table.proofs.table.OrderTable.put.Goals as goal

pub invariant_of-self : goal.invariant_of-self
invariant_of-self g c = ascending-after c.args.ro.now c.args.value c.self.inside.rows.items c.put_in.new.rows.items c.put_in.result c.put_in.ensures.ok c.put_in.ensures.err c.self.invariant
