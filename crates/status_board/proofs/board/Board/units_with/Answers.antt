use Rattle.std.proofs.Common.{◌≡◌, ◌<◌, ◌≤◌, ◌-◌, ◌+◌, List, ℕ, sym, ap, ◌∙◌, arith}
use Rattle.std.specs.List.{position_from}
use Rattle.mos_fields.specs.Characters.{Text}
use Rattle.mos_values.specs.Units.{capped}
use Rattle.status_board.specs.Board.{Report, answer_units, is_of_same, put_report}
use Rattle.status_board.specs.Tables.{BoardTables}
use Rattle.status_board.proofs.Counted.{stands, stands-within, units-push, units-set}
use Rattle.status_board.proofs.board.Board.units_with.Goals as goal

pub index-requires : goal.index-requires
index-requires c =
    let r : Report = (c.args.d, c.args.s.now) in
    let R = c.self.inside.rows.items in
    let view = ap (λ (b : BoardTables). b.reports) c.self.view_is in
    let at = stands (is_of_same r) c.in-Some.at R (ap (λ (l : List Report). position_from (is_of_same r) 0 l) view ∙ sym c.place.ensures ∙ c.in-Some.is) in
    let lt = stands-within (is_of_same r) R c.in-Some.at at in
    let ok = c.self.inside.rows.ok in
    omega (arith, lt, ok)

pub overflow_sub-before : goal.overflow_sub-before
overflow_sub-before c =
    let r : Report = (c.args.d, c.args.s.now) in
    let R = c.self.inside.rows.items in
    let view = ap (λ (b : BoardTables). b.reports) c.self.view_is in
    let at = stands (is_of_same r) c.in-Some.at R (ap (λ (l : List Report). position_from (is_of_same r) 0 l) view ∙ sym c.place.ensures ∙ c.in-Some.is) in
    let b : c.units_of-before.result ≡ capped (answer_units c.args.d c.args.s.now.ro R) = c.units_of-before.ensures ∙ ap (λ (t : Text). capped (answer_units c.args.d t c.args.self.now.reports)) c.text.ensures.value ∙ ap (λ (l : List Report). capped (answer_units c.args.d c.args.s.now.ro l)) (sym view) in
    (units-set R c.self.inside.units.items c.self.invariant.0.counted r c.in-Some.at c.index.result.now c.units_of-before.result c.group_units-taken.result c.group_units-added.result 0 at c.index.ensures b c.group_units-taken.ensures c.group_units-added.ensures).0

pub returns-in-Some : goal.returns-in-Some
returns-in-Some c =
    let r : Report = (c.args.d, c.args.s.now) in
    let R = c.self.inside.rows.items in
    let view = ap (λ (b : BoardTables). b.reports) c.self.view_is in
    let at = stands (is_of_same r) c.in-Some.at R (ap (λ (l : List Report). position_from (is_of_same r) 0 l) view ∙ sym c.place.ensures ∙ c.in-Some.is) in
    let b : c.units_of-before.result ≡ capped (answer_units c.args.d c.args.s.now.ro R) = c.units_of-before.ensures ∙ ap (λ (t : Text). capped (answer_units c.args.d t c.args.self.now.reports)) c.text.ensures.value ∙ ap (λ (l : List Report). capped (answer_units c.args.d c.args.s.now.ro l)) (sym view) in
    (units-set R c.self.inside.units.items c.self.invariant.0.counted r c.in-Some.at c.index.result.now c.units_of-before.result c.group_units-taken.result c.group_units-added.result c.saturating_add.result at c.index.ensures b c.group_units-taken.ensures c.group_units-added.ensures).1 c.saturating_add.ensures
    ∙ ap (λ (l : List Report). capped (answer_units c.args.d c.args.s.now.ro (put_report r l))) view

pub returns : goal.returns
returns c =
    let r : Report = (c.args.d, c.args.s.now) in
    let b : c.units_of-before.result ≡ capped (answer_units c.args.d c.args.s.now.ro c.args.self.now.reports) = c.units_of-before.ensures ∙ ap (λ (t : Text). capped (answer_units c.args.d t c.args.self.now.reports)) c.text.ensures.value in
    units-push c.args.self.now.reports r c.units_of-before.result c.group_units-added.result c.saturating_add-in-None.result (sym c.place.ensures ∙ c.in-None.is) b c.group_units-added.ensures c.saturating_add-in-None.ensures
