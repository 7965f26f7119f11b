use Rattle.std.proofs.Common.{sym, ap, ◌∙◌, slice_get, subst}
use Rattle.order_table.specs.Rows.{is_row_of, IsThere, IsMissing}
use Rattle.order_table.proofs.AscendingRows.{there, missing}
use Rattle.order_table.proofs.rows.search.Goals as goal

pub returns-then-is_there : goal.returns-then-is_there
returns-then-is_there g c =
    let ro = c.args.ro.now in
    let rows = c.args.rows.now in
    let at = c.place_of-place.ensures.place in
    subst (λ n. IsThere ro rows n) (sym at) (there ro rows c.requires (ap (λ n. is_row_of ro (slice_get rows n)) (sym at) ∙ (sym c.is_there.ensures ∙ c.if-is_there.true)))

pub returns-else-is_there : goal.returns-else-is_there
returns-else-is_there g c =
    let ro = c.args.ro.now in
    let rows = c.args.rows.now in
    let at = c.place_of-place.ensures.place in
    subst (λ n. IsMissing ro rows n) (sym at) (missing ro rows c.requires (ap (λ n. is_row_of ro (slice_get rows n)) (sym at) ∙ (sym c.is_there.ensures ∙ c.if-is_there.false)))
