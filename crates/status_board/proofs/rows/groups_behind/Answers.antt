use Rattle.std.proofs.Common.{◌≡◌, ℕ, ◌+◌, ◌-◌, ◌<◌, ◌≤◌, true, length, map, take, sym, ap, ◌∙◌, arith, [], ◌∷◌, ◌++◌, reverse, append_assoc, filter, Bool, false, cond, refl}
use Rattle.status_board.specs.Board.{Report, is_of_order, groups, group_of}
use Rattle.status_board.specs.Links.{last_of}
use Rattle.status_board.specs.Numbers.{order_of}
use Rattle.status_board.proofs.Fitting.{order-fits}
use Rattle.std.proofs.lemmas.List.{map-append, reverse-append}
use Rattle.status_board.proofs.Places.{along-back, along-start, all-start, all-step, before-is, before-less}
use Rattle.status_board.proofs.rows.groups_behind.Goals as goal

one-back : (b : Bool) (x : Report) → reverse (map group_of (cond b (x ∷ []) [])) ≡ map group_of (cond b (x ∷ []) [])
one-back true x = refl
one-back false x = refl

pub next-init : goal.next-init
next-init c =
    let n = c.order_number-n.result in
    let rows = c.args.rows.now in
    let fits : (r : Report) → is_of_order c.args.d c.args.ro.now r ≡ true → order_of r ≡ n = λ r h. order-fits c.args.d c.args.ro.now r h ∙ sym c.order_number-n.ensures in
    let s : c.last-at.result ≡ last_of n (map order_of rows) = c.last-at.ensures ∙ ap (last_of n) c.requires in
    let g = all-start order_of n rows (is_of_order c.args.d c.args.ro.now) fits c.last-at.result s in (
      ap (λ l. l ++ reverse (groups c.args.d c.args.ro.now (take c.last-at.result rows))) c.new-out.ensures.items ∙ ap (λ l. reverse (map group_of l)) (sym g),
      along-start order_of n rows c.args.orders.now.numbers c.last-at.result c.requires c.last-at.ensures,
    )

pub next-smaller : goal.next-smaller
next-smaller c =
    let t = c.next-test.true in
    let a : c.next.at ≡ (c.next.at - 1) + 1 = omega (arith, t) in
    before-less order_of c.order_number-n.result c.args.rows.now (c.next.at - 1) c.next.at c.before-at.result a
    (before-is order_of c.order_number-n.result c.args.rows.now c.args.orders.now.numbers (c.next.at - 1) c.next.at c.before-at.result c.requires c.next.invariant.1 a c.before-at.ensures)

pub next-preserved : goal.next-preserved
next-preserved c =
    let n = c.order_number-n.result in
    let rows = c.args.rows.now in
    let here = c.next.at - 1 in
    let fits : (r : Report) → is_of_order c.args.d c.args.ro.now r ≡ true → order_of r ≡ n = λ r h. order-fits c.args.d c.args.ro.now r h ∙ sym c.order_number-n.ensures in
    let t = c.next-test.true in
    let w = c.next.invariant.1.within in
    let a : c.next.at ≡ here + 1 = omega (arith, t) in
    let lt : here < length rows = omega (arith, t, w) in
    let le : here ≤ length rows = omega (arith, t, w) in
    let b = before-is order_of n rows c.args.orders.now.numbers here c.next.at c.before-at.result c.requires c.next.invariant.1 a c.before-at.ensures in
    let x = c.index-rows-here.result in
    let g = all-step order_of n rows (is_of_order c.args.d c.args.ro.now) fits here c.before-at.result c.next.at x a lt c.index-rows-here.is b in
    let before = groups c.args.d c.args.ro.now (take c.before-at.result rows) in
    let one = groups c.args.d c.args.ro.now (x ∷ []) in
    let old = c.next.out.items in
    let split : groups c.args.d c.args.ro.now (take c.next.at rows) ≡ before ++ one = ap (map group_of) g ∙ map-append group_of (filter (is_of_order c.args.d c.args.ro.now) (take c.before-at.result rows)) (filter (is_of_order c.args.d c.args.ro.now) (x ∷ [])) in
    let turned : reverse (groups c.args.d c.args.ro.now (take c.next.at rows)) ≡ one ++ reverse before = ap reverse split ∙ reverse-append before one ∙ ap (λ l. l ++ reverse before) (one-back (is_of_order c.args.d c.args.ro.now x) x) in
    let pushed : c.push_group.new.out.items ≡ old ++ one = c.in_ok-push_group.ensures in
    (ap (λ l. l ++ reverse before) pushed ∙ append_assoc old one (reverse before) ∙ ap (λ l. old ++ l) (sym turned) ∙ c.next.invariant.0, along-back order_of n rows here c.before-at.result le b)
