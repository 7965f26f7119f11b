use Rattle.std.proofs.Common.{◌≡◌, sym, ap, ◌∙◌}
use Rattle.order_table.specs.Rows.{value_or}
use Rattle.order_table.proofs.Looked.{look-found}
use Rattle.deck_rack.specs.Decks.{Row, no_row}
use Rattle.deck_rack.specs.Memory.{rows_of}
use Rattle.deck_rack.proofs.lists.Lists.list.Goals as goal

pub returns-in-Some : goal.returns-in-Some
returns-in-Some c =
    let row : rows_of c.self.inside.rows c.args.ro.now ≡ c.in-Some.held.now = look-found no_row c.args.ro.now c.self.inside.rows ∙ ap (value_or no_row) (sym c.in-Some.ensures) in
    c.list.ensures ∙ ap (λ (r : Row). r.list) (sym row ∙ ap (λ rows. rows_of rows c.args.ro.now) c.self.view_is)

pub returns-in-None : goal.returns-in-None
returns-in-None c =
    let row : rows_of c.self.inside.rows c.args.ro.now ≡ no_row = look-found no_row c.args.ro.now c.self.inside.rows ∙ ap (value_or no_row) (sym c.in-None.ensures) in
    ap (λ (r : Row). r.list) (sym row ∙ ap (λ rows. rows_of rows c.args.ro.now) c.self.view_is)
