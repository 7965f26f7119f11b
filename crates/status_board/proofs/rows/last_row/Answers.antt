use Rattle.std.proofs.Common.{◌≡◌, ℕ, ◌+◌, ◌-◌, ◌<◌, ◌≤◌, true, length, map, take, sym, ap, ◌∙◌, arith}
use Rattle.status_board.specs.Board.{Report, is_of_order}
use Rattle.status_board.specs.Links.{last_of}
use Rattle.status_board.specs.Numbers.{order_of}
use Rattle.status_board.proofs.Fitting.{order-fits}
use Rattle.status_board.proofs.Places.{along-back, along-start, before-is, before-less, last-here, last-start, last-step}
use Rattle.status_board.proofs.rows.last_row.Goals as goal

pub next-init : goal.next-init
next-init c =
    let n = c.order_number-n.result in
    let rows = c.args.rows.now in
    let fits : (r : Report) → is_of_order c.args.d c.args.ro.now r ≡ true → order_of r ≡ n = λ r h. order-fits c.args.d c.args.ro.now r h ∙ sym c.order_number-n.ensures in
    let s : c.last-at.result ≡ last_of n (map order_of rows) = c.last-at.ensures ∙ ap (last_of n) c.requires in (
      last-start order_of n rows (is_of_order c.args.d c.args.ro.now) fits c.last-at.result s,
      along-start order_of n rows c.args.orders.now.numbers c.last-at.result c.requires c.last-at.ensures,
    )

pub returns-then-is_of_order : goal.returns-then-is_of_order
returns-then-is_of_order c =
    let n = c.order_number-n.result in
    let rows = c.args.rows.now in
    let here = c.next.at - 1 in
    let fits : (r : Report) → is_of_order c.args.d c.args.ro.now r ≡ true → order_of r ≡ n = λ r h. order-fits c.args.d c.args.ro.now r h ∙ sym c.order_number-n.ensures in
    let t = c.next-test.true in
    let w = c.next.invariant.1.within in
    let a : c.next.at ≡ here + 1 = omega (arith, t) in
    let lt : here < length rows = omega (arith, t, w) in
    let le : here ≤ length rows = omega (arith, t, w) in
    last-here order_of n rows (is_of_order c.args.d c.args.ro.now) fits here c.next.at c.index-rows-here.result a lt c.index-rows-here.is c.next.invariant.0 (sym c.is_of_order.ensures ∙ c.if-is_of_order.true)

pub next-smaller : goal.next-smaller
next-smaller c =
    let t = c.next-test.true in
    let a : c.next.at ≡ (c.next.at - 1) + 1 = omega (arith, t) in
    before-less order_of c.order_number-n.result c.args.rows.now (c.next.at - 1) c.next.at c.before-at.result a
    (before-is order_of c.order_number-n.result c.args.rows.now c.args.orders.now.numbers (c.next.at - 1) c.next.at c.before-at.result c.requires c.next.invariant.1 a c.before-at.ensures)

pub next-preserved : goal.next-preserved
next-preserved c =
    let n = c.order_number-n.result in
    let rows = c.args.rows.now in
    let here = c.next.at - 1 in
    let fits : (r : Report) → is_of_order c.args.d c.args.ro.now r ≡ true → order_of r ≡ n = λ r h. order-fits c.args.d c.args.ro.now r h ∙ sym c.order_number-n.ensures in
    let t = c.next-test.true in
    let w = c.next.invariant.1.within in
    let a : c.next.at ≡ here + 1 = omega (arith, t) in
    let lt : here < length rows = omega (arith, t, w) in
    let le : here ≤ length rows = omega (arith, t, w) in
    let b = before-is order_of n rows c.args.orders.now.numbers here c.next.at c.before-at.result c.requires c.next.invariant.1 a c.before-at.ensures in (
      last-step order_of n rows (is_of_order c.args.d c.args.ro.now) fits here c.before-at.result c.next.at c.index-rows-here.result a lt c.index-rows-here.is c.next.invariant.0 (sym c.is_of_order.ensures ∙ c.if-is_of_order.false) b,
      along-back order_of n rows here c.before-at.result le b,
    )
