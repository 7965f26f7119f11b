use Rattle.std.proofs.Common.{sym, ap, ◌∙◌, subst}
use Rattle.std.proofs.lemmas.List.{with_items_is}
use Rattle.mos_edits.specs.Rows.{row_ids, map_rows}
use Rattle.order_table.specs.Rows.{IsAscending}
use Rattle.order_table.proofs.AscendingRows.{map-ascending}
use Rattle.order_table.proofs.table.OrderTable.change_all.Goals as goal

pub invariant_of-self : goal.invariant_of-self
invariant_of-self g c =
    let f = g.C.RowChange.changed c.args.change.now in
    let whole = with_items_is c.self.inside.rows c.change_rows.new.rows (c.change_rows.auto.rows ∙ c.deref_mut.ensures.len) in
    subst (λ rows. IsAscending (row_ids rows)) (sym (whole ∙ (c.change_rows.ensures ∙ ap (map_rows f) c.deref_mut.ensures.value))) (map-ascending f c.self.inside.rows.items c.self.invariant)
