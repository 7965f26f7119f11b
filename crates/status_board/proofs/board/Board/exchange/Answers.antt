use Rattle.std.proofs.Common.{rules, ◌≡◌, ◌+◌, ◌-◌, ◌<◌, ◌≤◌, [], ◌∷◌, length, List, ℕ, suc, true, get_or, slice_set, refl, sym, ap, subst, ◌∙◌, arith}
use Rattle.status_board.specs.Board.{Report, answer_units, is_of_order, is_of_same}
use Rattle.status_board.specs.Links.{last_by}
use Rattle.status_board.specs.Tables.{BoardTables, StandsAt}
use Rattle.status_board.proofs.Counted.{kept-set, last-some, same-element, stands-test, stands-within}
use Rattle.status_board.proofs.Places.{last-within}
use Rattle.status_board.proofs.board.Board.exchange.Goals as goal

pub put_over-requires : goal.put_over-requires
put_over-requires c =
    let r : Report = (c.args.d, c.args.s) in
    let view = ap (λ (b : BoardTables). b.reports) c.self.view_is in
    let lt = stands-within (is_of_same r) c.self.inside.rows.items c.args.at (subst (λ (l : List Report). StandsAt (is_of_same r) l c.args.at) (sym view) c.requires.at) in
    let ok = c.self.inside.rows.ok in
    omega (arith, lt, ok)

pub overflow_sub-last : goal.overflow_sub-last
overflow_sub-last c =
    let r : Report = (c.args.d, c.args.s) in
    let R = c.self.inside.rows.items in
    let view = ap (λ (b : BoardTables). b.reports) c.self.view_is in
    let at = subst (λ (l : List Report). StandsAt (is_of_same r) l c.args.at) (sym view) c.requires.at in
    let lt = stands-within (is_of_same r) R c.args.at at in
    let p = last-some (is_of_order c.args.d c.args.s.ro) R c.args.at r lt (same-element r (get_or R c.args.at r) (stands-test (is_of_same r) R c.args.at r at)) in
    let e = c.last_row-last.ensures ∙ ap (last_by (is_of_order c.args.d c.text.result.now)) c.deref.ensures.value ∙ ap (λ t. last_by (is_of_order c.args.d t) R) c.text.ensures.value in
    omega (arith, p, e)

pub index_mut-requires : goal.index_mut-requires
index_mut-requires c =
    let r : Report = (c.args.d, c.args.s) in
    let R = c.self.inside.rows.items in
    let view = ap (λ (b : BoardTables). b.reports) c.self.view_is in
    let at = subst (λ (l : List Report). StandsAt (is_of_same r) l c.args.at) (sym view) c.requires.at in
    let lt = stands-within (is_of_same r) R c.args.at at in
    let p = last-some (is_of_order c.args.d c.args.s.ro) R c.args.at r lt (same-element r (get_or R c.args.at r) (stands-test (is_of_same r) R c.args.at r at)) in
    let e = c.last_row-last.ensures ∙ ap (last_by (is_of_order c.args.d c.text.result.now)) c.deref.ensures.value ∙ ap (λ t. last_by (is_of_order c.args.d t) R) c.text.ensures.value in
    let w = last-within (is_of_order c.args.d c.args.s.ro) R in
    let each = c.self.invariant.0.counted.each in
    let ok = c.self.inside.units.ok in
    omega (arith, p, e, w, each, ok)

pub invariant_of-self : goal.invariant_of-self
invariant_of-self c =
    let r : Report = (c.args.d, c.args.s) in
    let R = c.self.inside.rows.items in
    let view = ap (λ (b : BoardTables). b.reports) c.self.view_is in
    let at = subst (λ (l : List Report). StandsAt (is_of_same r) l c.args.at) (sym view) c.requires.at in
    let lt = stands-within (is_of_same r) R c.args.at at in
    let p = last-some (is_of_order c.args.d c.args.s.ro) R c.args.at r lt (same-element r (get_or R c.args.at r) (stands-test (is_of_same r) R c.args.at r at)) in
    let e : c.last_row-last.result ≡ last_by (is_of_order c.args.d c.args.s.ro) R = c.last_row-last.ensures ∙ ap (last_by (is_of_order c.args.d c.text.result.now)) c.deref.ensures.value ∙ ap (λ t. last_by (is_of_order c.args.d t) R) c.text.ensures.value in
    let l : last_by (is_of_order c.args.d c.args.s.ro) R ≡ suc (c.last_row-last.result - 1) = omega (arith, p, e) in
    let u : c.args.units ≡ answer_units c.args.d c.args.s.ro (slice_set R c.args.at r) = c.requires.units ∙ ap (λ (v : List Report). answer_units c.args.d c.args.s.ro (slice_set v c.args.at r)) (sym view) in
    let len = c.put_over.ensures.len in
    let cap = c.put_over.ensures.capacity in
    let i1 = c.self.invariant.1 in (
      kept-set R c.put_over.new.rows.items c.self.inside.units.items (slice_set c.self.inside.units.items (c.last_row-last.result - 1) c.args.units) c.self.inside.elements.numbers c.self.inside.orders.numbers c.args.at (c.last_row-last.result - 1) r c.args.units
          c.self.invariant.0 at l c.put_over.ensures.items refl u c.requires.within,
      omega (arith, i1, len, cap),
      c.self.invariant.2,
      c.self.invariant.3,
      c.self.invariant.4,
    )
