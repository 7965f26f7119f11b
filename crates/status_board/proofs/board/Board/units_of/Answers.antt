use Rattle.std.proofs.Common.{◌≡◌, ◌<◌, ◌≤◌, ◌-◌, List, ℕ, suc, get_or, sym, ap, subst, ◌∙◌, arith}
use Rattle.mos_values.specs.Units.{capped}
use Rattle.status_board.specs.Board.{Report, answer_units, is_of_order}
use Rattle.status_board.specs.Links.{last_by}
use Rattle.status_board.specs.Tables.{BoardTables}
use Rattle.status_board.proofs.Counted.{answer-none, told-last}
use Rattle.status_board.proofs.Places.{last-within}
use Rattle.status_board.proofs.board.Board.units_of.Goals as goal

pub index-requires : goal.index-requires
index-requires c =
    let f = c.if-last-eq0.false in
    let w = last-within (is_of_order c.args.d c.args.ro.now) c.self.inside.rows.items in
    let e = c.last_row-last.ensures ∙ ap (last_by (is_of_order c.args.d c.args.ro.now)) c.deref.ensures.value in
    let each = c.self.invariant.0.counted.each in
    let ok = c.self.inside.units.ok in
    omega (arith, f, w, e, each, ok)

pub returns-then-last-eq0 : goal.returns-then-last-eq0
returns-then-last-eq0 c =
    let view = ap (λ (b : BoardTables). b.reports) c.self.view_is in
    c.empty_units.ensures ∙ ap capped (sym (answer-none c.args.d c.args.ro.now c.self.inside.rows.items (sym (c.last_row-last.ensures ∙ ap (last_by (is_of_order c.args.d c.args.ro.now)) c.deref.ensures.value) ∙ c.if-last-eq0.true)) ∙ ap (answer_units c.args.d c.args.ro.now) view)

pub returns-else-last-eq0 : goal.returns-else-last-eq0
returns-else-last-eq0 c =
    let view = ap (λ (b : BoardTables). b.reports) c.self.view_is in
    let f = c.if-last-eq0.false in
    let le : 1 ≤ c.last_row-last.result = omega (arith, f) in
    told-last c.self.inside.rows.items c.self.inside.units.items c.args.d c.args.ro.now c.last_row-last.result c.index.result.now c.self.invariant.0.counted (c.last_row-last.ensures ∙ ap (last_by (is_of_order c.args.d c.args.ro.now)) c.deref.ensures.value) le c.index.ensures
    ∙ ap (λ (l : List Report). capped (answer_units c.args.d c.args.ro.now l)) view
