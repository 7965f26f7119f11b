use Rattle.std.proofs.Common.{sym, subst}
use Rattle.mos_edits.specs.Rows.{row_ids}
use Rattle.order_table.specs.Rows.{IsAscending}
use Rattle.order_table.proofs.AscendingRows.{filter-ascending}
use Rattle.order_table.proofs.table.OrderTable.retain.Goals as goal

pub invariant_of-self : goal.invariant_of-self
invariant_of-self g c = subst (λ rows. IsAscending (row_ids rows)) (sym c.retain_in.ensures) (filter-ascending (g.C.RowTest.kept c.args.test.now) c.self.inside.rows.items c.self.invariant)
