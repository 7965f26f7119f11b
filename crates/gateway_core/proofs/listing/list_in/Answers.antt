use Rattle.std.proofs.Common.{sym, ap, ◌∙◌, subst}
use Rattle.mos_machines.specs.Tables.{map_rows}
use Rattle.order_table.specs.Rows.{put_rows}
use Rattle.gateway_core.specs.Parts.{wanting_out}
use Rattle.gateway_core.specs.Lists.{missing_rows, AreKnown}
use Rattle.gateway_core.proofs.ListSteps.{map-known, missing-known}
use Rattle.gateway_core.proofs.listing.list_in.Goals as goal

pub want_each-requires : goal.want_each-requires
want_each-requires c =
    let hs = c.args.headers.now in
    let rows = c.args.orders.now in
    let new = c.in_ok-put_all.ensures.ok ∙ ap (λ xs. put_rows xs rows) c.in_ok-new.ensures in
    subst (λ t. AreKnown hs t) (sym (c.change_all.ensures ∙ ap (map_rows (λ r. wanting_out)) new))
    (map-known (λ r. wanting_out) hs (put_rows (missing_rows hs rows) rows) (missing-known hs rows rows (λ q h. h)))
