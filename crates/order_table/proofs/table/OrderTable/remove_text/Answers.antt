use Rattle.std.proofs.Common.{[], ◌∷◌, sym, subst}
use Rattle.mos_edits.specs.Rows.{row_ids}
use Rattle.mos_edits.proofs.Rows.{without-ascending}
use Rattle.order_table.specs.Rows.{IsAscending}
use Rattle.order_table.proofs.table.OrderTable.remove_text.Goals as goal

pub invariant_of-self : goal.invariant_of-self
invariant_of-self g c = subst (λ rows. IsAscending (row_ids rows)) (sym c.remove_in.ensures) (without-ascending (c.args.ro.now ∷ []) c.self.inside.rows.items c.self.invariant)
