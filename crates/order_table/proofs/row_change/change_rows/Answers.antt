use Rattle.std.proofs.Common.{◌≡◌, ◌<◌, length, get_or, set, sym, ap, ◌∙◌, arith}
use Rattle.order_table.proofs.AscendingRows.{map_front, front-all, front-here, front-step}
use Rattle.order_table.proofs.row_change.change_rows.Goals as goal

pub loop-row-preserved : goal.loop-row-preserved
loop-row-preserved g c =
    let f = g.C.RowChange.changed c.args.change.now in
    let n = c.loop-row.row-index in
    let old = c.args.rows.now in
    let x = c.row-item.result in
    let y = get_or c.loop-row.rows n x in
    let lt : n < length old = c.loop-row-test.true in
    let is : x ≡ get_or old n x = c.row-item.is ∙ (ap (λ rows. get_or rows n x) c.loop-row.invariant ∙ front-here f n old x lt) in
    ap (λ rows. set rows n (y.0, c.change.new.value)) c.loop-row.invariant
    ∙ (ap (λ v. set (map_front f n old) n (y.0, v)) c.change.ensures
    ∙ (ap (λ z. set (map_front f n old) n (z.0, f z.0 z.1)) (sym c.row-item.is) ∙ front-step f n old x lt is))

pub returns : goal.returns
returns g c =
    let f = g.C.RowChange.changed c.args.change.now in
    let whole : c.loop-row.row-index ≡ length c.args.rows.now = omega arith in
    c.loop-row.invariant ∙ (ap (λ n. map_front f n c.args.rows.now) whole ∙ front-all f c.args.rows.now)
