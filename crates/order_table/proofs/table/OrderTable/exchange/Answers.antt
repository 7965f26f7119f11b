use Rattle.std.proofs.Common.{sym, ap, ◌∙◌, subst}
use Rattle.std.proofs.lemmas.List.{with_items_is}
use Rattle.mos_edits.specs.Rows.{row_ids, put_row}
use Rattle.order_table.specs.Rows.{IsAscending}
use Rattle.order_table.proofs.AscendingRows.{put-ascending}
use Rattle.order_table.proofs.table.OrderTable.exchange.Goals as goal

pub invariant_of-self : goal.invariant_of-self
invariant_of-self g c =
    let ro = c.args.ro.now in
    let v = c.args.value.now in
    let whole = with_items_is c.self.inside.rows c.exchange_in.new.rows (c.exchange_in.auto.rows ∙ c.deref_mut.ensures.len) in
    subst (λ rows. IsAscending (row_ids rows)) (sym (whole ∙ (c.exchange_in.ensures.table ∙ ap (put_row ro v) c.deref_mut.ensures.value))) (put-ascending ro v c.self.inside.rows.items c.self.invariant)
