use Rattle.std.proofs.Common.{◌≡◌, ◌≤◌, ◌∷◌, [], ◌++◌, List, ℕ, slice_set, sym, ap, ◌∙◌, arith}
use Rattle.status_board.specs.Board.{Report, answer_units, is_of_same, put_report}
use Rattle.status_board.proofs.Counted.{none-put, stands, stands-put, told-whole}
use Rattle.status_board.proofs.board.Board.put.Goals as goal

pub exchange-requires-clause-at : goal.exchange-requires-clause-at
exchange-requires-clause-at c = stands (is_of_same (c.args.d, c.args.s)) c.in-Some.at c.args.self.now.reports (sym c.place.ensures ∙ c.in-Some.is)

pub exchange-requires-clause-units : goal.exchange-requires-clause-units
exchange-requires-clause-units c =
    let r : Report = (c.args.d, c.args.s) in
    let R = c.args.self.now.reports in
    let at = stands (is_of_same r) c.in-Some.at R (sym c.place.ensures ∙ c.in-Some.is) in
    told-whole c.units_with-units.result (answer_units c.args.d c.args.s.ro (put_report r R)) (answer_units c.args.d c.args.s.ro (slice_set R c.in-Some.at r)) c.units_with-units.ensures c.requires.within (ap (answer_units c.args.d c.args.s.ro) (stands-put r R c.in-Some.at at))

pub push-requires-clause-units : goal.push-requires-clause-units
push-requires-clause-units c =
    let r : Report = (c.args.d, c.args.s) in
    let R = c.args.self.now.reports in
    told-whole c.units_with-units.result (answer_units c.args.d c.args.s.ro (put_report r R)) (answer_units c.args.d c.args.s.ro (R ++ r ∷ [])) c.units_with-units.ensures c.requires.within (ap (answer_units c.args.d c.args.s.ro) (none-put r 0 R (sym c.place.ensures ∙ c.in-None.is)))

pub returns-in-Some-clause-reports : goal.returns-in-Some-clause-reports
returns-in-Some-clause-reports c =
    let r : Report = (c.args.d, c.args.s) in
    let R = c.args.self.now.reports in
    let at = stands (is_of_same r) c.in-Some.at R (sym c.place.ensures ∙ c.in-Some.is) in
    c.exchange.ensures.reports ∙ stands-put r R c.in-Some.at at

pub returns-in-None-clause-reports : goal.returns-in-None-clause-reports
returns-in-None-clause-reports c = c.push.ensures.reports ∙ none-put (c.args.d, c.args.s) 0 c.args.self.now.reports (sym c.place.ensures ∙ c.in-None.is)
