use Rattle.std.proofs.Common.{◌≡◌, ◌<◌, List, Some, None, get_or, sym, ap, subst, ◌∙◌, arith}
use Rattle.std.specs.List.{position_from}
use Rattle.status_board.specs.Board.{Report, find_report, is_of_element}
use Rattle.status_board.specs.Tables.{BoardTables, StandsAt}
use Rattle.status_board.proofs.Counted.{none-find, stands, stands-find, stands-within}
use Rattle.status_board.proofs.board.Board.last.Goals as goal

pub index-requires : goal.index-requires
index-requires c =
    let P = is_of_element c.args.d c.text.result.now c.args.level c.text-2.result.now c.text-3.result.now in
    let view = ap (λ (b : BoardTables). b.reports) c.self.view_is in
    let R = c.self.inside.rows.items in
    let at = stands P c.in-Some.at R (ap (λ (l : List Report). position_from P 0 l) view ∙ sym c.find.ensures ∙ c.in-Some.is) in
    let lt = stands-within P R c.in-Some.at at in
    let ok = c.self.inside.rows.ok in
    omega (arith, lt, ok)

pub returns-in-Some : goal.returns-in-Some
returns-in-Some c =
    let P = is_of_element c.args.d c.text.result.now c.args.level c.text-2.result.now c.text-3.result.now in
    let view = ap (λ (b : BoardTables). b.reports) c.self.view_is in
    let R = c.self.inside.rows.items in
    let at = stands P c.in-Some.at R (ap (λ (l : List Report). position_from P 0 l) view ∙ sym c.find.ensures ∙ c.in-Some.is) in
    let f = stands-find c.args.d c.text.result.now c.args.level c.text-2.result.now c.text-3.result.now R c.in-Some.at c.index.result.now at in
    ap (λ (r : Report). Some r.1) c.index.ensures
    ∙ sym f
    ∙ ap (λ (l : List Report). find_report c.args.d c.text.result.now c.args.level c.text-2.result.now c.text-3.result.now l) view
    ∙ ap (λ t. find_report c.args.d t c.args.level c.text-2.result.now c.text-3.result.now c.args.self.now.reports) c.text.ensures.value
    ∙ ap (λ t. find_report c.args.d c.args.ro.now c.args.level t c.text-3.result.now c.args.self.now.reports) c.text-2.ensures.value
    ∙ ap (λ t. find_report c.args.d c.args.ro.now c.args.level c.args.story.now t c.args.self.now.reports) c.text-3.ensures.value

pub returns-in-None : goal.returns-in-None
returns-in-None c =
    let f = none-find c.args.d c.text.result.now c.args.level c.text-2.result.now c.text-3.result.now 0 c.args.self.now.reports (sym c.find.ensures ∙ c.in-None.is) in
    sym f
    ∙ ap (λ t. find_report c.args.d t c.args.level c.text-2.result.now c.text-3.result.now c.args.self.now.reports) c.text.ensures.value
    ∙ ap (λ t. find_report c.args.d c.args.ro.now c.args.level t c.text-3.result.now c.args.self.now.reports) c.text-2.ensures.value
    ∙ ap (λ t. find_report c.args.d c.args.ro.now c.args.level c.args.story.now t c.args.self.now.reports) c.text-3.ensures.value
