use Rattle.std.proofs.Common.{◌≡◌, List, sym, ap, ◌∙◌}
use Rattle.mos_machines.specs.Tables.{put_row}
use Rattle.order_table.specs.Rows.{find_row, value_or}
use Rattle.order_table.proofs.Looked.{look-found}
use Rattle.deck_rack.specs.Decks.{Row, marked, no_row}
use Rattle.deck_rack.specs.declared.plays.PlayItem.{PlayItem}
use Rattle.deck_rack.specs.Memory.{row_changed, rows_of}
use Rattle.deck_rack.proofs.Views.{ok-is}
use Rattle.deck_rack.proofs.lists.Lists.add_row.Goals as goal

pub returns-clause-ok : goal.returns-clause-ok
returns-clause-ok c =
    let rows = c.self.inside.rows in
    let ro = c.args.ro.now in
    let row : rows_of rows ro ≡ no_row = look-found no_row ro rows ∙ ap (value_or no_row) (ap (find_row ro) c.self.view_is ∙ c.requires) in
    let held : c.new.result ≡ marked c.args.armed no_row = c.new.ensures ∙ ap (λ (l : List PlayItem). record { list = l; armed = c.args.armed }) c.new-list.ensures.items in
    ok-is c.put.result c.put.new.self (put_row ro c.new.result rows) (row_changed (marked c.args.armed) ro c.args.self.now) c.put.ensures.ok (ap (λ (v : Row). put_row ro v rows) (held ∙ ap (marked c.args.armed) (sym row)) ∙ ap (row_changed (marked c.args.armed) ro) c.self.view_is)
