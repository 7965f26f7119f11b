use Rattle.std.proofs.Common.{◌≡◌, IsSome, sym, ap, ◌∙◌, subst}
use Rattle.mos_machines.specs.Server.View.{Out}
use Rattle.mos_machines.specs.Tables.{put_row, look}
use Rattle.order_table.specs.Rows.{find_row}
use Rattle.order_table.proofs.Looked.{put-put}
use Rattle.server_peer.specs.Parts.{after_view}
use Rattle.server_peer.proofs.ViewRows.{look-some, some-put}
use Rattle.server_peer.proofs.views.step.Goals as goal

pub exchange-requires-2 : goal.exchange-requires-2
exchange-requires-2 c = subst (λ rows. IsSome (find_row c.args.ro.now rows)) (sym c.exchange.ensures.table) (some-put c.args.ro.now c.out-seen.result c.args.views.now)

pub returns : goal.returns
returns c =
    let ro = c.args.ro.now in
    let rows = c.args.views.now in
    let v = c.exchange.new.value in
    let is = look-some ro rows v c.exchange.ensures.value in
    c.exchange-2.ensures.table
    ∙ (ap (λ w. put_row ro w c.exchange.new.self) c.step.ensures
    ∙ (ap (put_row ro (after_view c.args.after v)) c.exchange.ensures.table
    ∙ (put-put ro c.out-seen.result (after_view c.args.after v) rows
    ∙ ap (λ w. put_row ro (after_view c.args.after w) rows) (sym is))))
