use Rattle.std.proofs.Common.{◌≡◌, IsSome, refl, sym, ap, subst, ◌∙◌}
use Rattle.mos_machines.specs.Tables.{put_row}
use Rattle.order_table.specs.Rows.{find_row, value_or}
use Rattle.order_table.proofs.Looked.{look-found, put-put, find-put}
use Rattle.deck_rack.specs.Decks.{marked, no_row}
use Rattle.deck_rack.specs.Memory.{row_changed, rows_of}
use Rattle.deck_rack.proofs.lists.Lists.mark_row.Goals as goal

pub exchange-requires-2 : goal.exchange-requires-2
exchange-requires-2 c =
    let found = ap (find_row c.args.ro.now) c.exchange.ensures.table ∙ find-put c.args.ro.now c.new-held.result c.self.inside.rows in
    subst (λ o. IsSome o) (sym found) refl

pub returns : goal.returns
returns c =
    let rows = c.self.inside.rows in
    let ro = c.args.ro.now in
    let row : rows_of rows ro ≡ c.exchange.new.value = look-found no_row ro rows ∙ ap (value_or no_row) c.exchange.ensures.value in
    c.exchange-2.ensures.table
    ∙ (ap (put_row ro c.mark.new.self) c.exchange.ensures.table
    ∙ (put-put ro c.new-held.result c.mark.new.self rows
    ∙ (ap (λ v. put_row ro v rows) (c.mark.ensures ∙ ap (marked c.args.armed) (sym row))
    ∙ ap (row_changed (marked c.args.armed) ro) c.self.view_is)))
