use Rattle.std.proofs.Common.{rules, ◌≡◌, ◌+◌, ◌-◌, ◌≤◌, [], ◌∷◌, ◌++◌, length, List, ℕ, sym, ap, ◌∙◌, arith}
use Rattle.status_board.specs.Board.{Report, answer_units}
use Rattle.status_board.specs.Numbers.{order_number}
use Rattle.status_board.specs.Tables.{BoardTables}
use Rattle.status_board.proofs.Counted.{kept-push}
use Rattle.status_board.proofs.board.Board.push.Goals as goal

pub invariant_of-self : goal.invariant_of-self
invariant_of-self c =
    let r : Report = (c.args.d, c.args.s) in
    let R = c.self.inside.rows.items in
    let view : R ≡ c.args.self.now.reports = ap (λ (b : BoardTables). b.reports) c.self.view_is in
    let room : c.self.inside.room ≡ c.args.self.now.spare = ap (λ (b : BoardTables). b.spare) c.self.view_is in
    let us : c.push.new.self.items ≡ c.self.inside.units.items ++ c.args.units ∷ [] = search rules in
    let u : c.args.units ≡ answer_units c.args.d c.args.s.ro (R ++ r ∷ []) = c.requires.units ∙ ap (λ (l : List Report). answer_units c.args.d c.args.s.ro (l ++ r ∷ [])) (sym view) in
    let order = c.order_number-order.ensures ∙ ap (order_number c.args.d) c.text.ensures.value in
    let s = c.requires.spare in
    let i1 = c.self.invariant.1 in
    let i2 = c.self.invariant.2 in
    let i3 = c.self.invariant.3 in
    let i4 = c.self.invariant.4 in
    let pl = c.put_last.ensures.len in
    let pc = c.put_last.ensures.capacity in
    let ul = c.push.ensures.upper_bound in
    let uc = c.push.ensures.capacity in
    let e = c.push-2.ensures.spare in
    let o = c.push-3.ensures.spare in (
      kept-push R c.put_last.new.rows.items c.self.inside.units.items c.push.new.self.items c.self.inside.elements.numbers c.push-2.new.self.numbers c.self.inside.orders.numbers c.push-3.new.self.numbers
          r c.args.units c.element_of_report-element.result c.order_number-order.result c.self.invariant.0 c.put_last.ensures.items us c.push-2.ensures.numbers c.push-3.ensures.numbers c.element_of_report-element.ensures order u c.requires.within,
      omega (arith, s, room, i1, pl, pc),
      omega (arith, s, room, i2, ul, uc),
      omega (arith, s, room, i3, e),
      omega (arith, s, room, i4, o),
    )
