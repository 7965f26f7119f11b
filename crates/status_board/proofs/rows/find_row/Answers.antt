use Rattle.std.proofs.Common.{◌≡◌, ℕ, ◌+◌, ◌-◌, ◌<◌, ◌≤◌, true, length, map, take, sym, ap, ◌∙◌, arith}
use Rattle.status_board.specs.Board.{Report, is_of_element}
use Rattle.status_board.specs.Links.{last_of}
use Rattle.status_board.specs.Numbers.{element_of}
use Rattle.status_board.proofs.Fitting.{element-fits}
use Rattle.status_board.proofs.Places.{along-back, along-start, before-is, before-less, first-start, first-step}
use Rattle.status_board.proofs.rows.find_row.Goals as goal

pub next-init : goal.next-init
next-init c =
    let n = c.element_number-n.result in
    let rows = c.args.rows.now in
    let fits : (r : Report) → is_of_element c.args.d c.args.ro.now c.args.level c.args.story.now c.args.item.now r ≡ true → element_of r ≡ n =
    λ r h. element-fits c.args.d c.args.ro.now c.args.level c.args.story.now c.args.item.now r h ∙ sym c.element_number-n.ensures in
    let s : c.last-at.result ≡ last_of n (map element_of rows) = c.last-at.ensures ∙ ap (last_of n) c.requires.numbers in (
      first-start element_of n rows (is_of_element c.args.d c.args.ro.now c.args.level c.args.story.now c.args.item.now) fits c.last-at.result s,
      along-start element_of n rows c.args.elements.now.numbers c.last-at.result c.requires.numbers c.last-at.ensures,
    )

pub next-smaller : goal.next-smaller
next-smaller c =
    let t = c.next-test.true in
    let a : c.next.at ≡ (c.next.at - 1) + 1 = omega (arith, t) in
    before-less element_of c.element_number-n.result c.args.rows.now (c.next.at - 1) c.next.at c.before-at.result a
    (before-is element_of c.element_number-n.result c.args.rows.now c.args.elements.now.numbers (c.next.at - 1) c.next.at c.before-at.result c.requires.numbers c.next.invariant.1 a c.before-at.ensures)

pub next-preserved : goal.next-preserved
next-preserved c =
    let n = c.element_number-n.result in
    let rows = c.args.rows.now in
    let here = c.next.at - 1 in
    let fits : (r : Report) → is_of_element c.args.d c.args.ro.now c.args.level c.args.story.now c.args.item.now r ≡ true → element_of r ≡ n =
    λ r h. element-fits c.args.d c.args.ro.now c.args.level c.args.story.now c.args.item.now r h ∙ sym c.element_number-n.ensures in
    let t = c.next-test.true in
    let w = c.next.invariant.1.within in
    let a : c.next.at ≡ here + 1 = omega (arith, t) in
    let lt : here < length rows = omega (arith, t, w) in
    let b = before-is element_of n rows c.args.elements.now.numbers here c.next.at c.before-at.result c.requires.numbers c.next.invariant.1 a c.before-at.ensures in
    let le : here ≤ length rows = omega (arith, t, w) in (
      first-step element_of n rows (is_of_element c.args.d c.args.ro.now c.args.level c.args.story.now c.args.item.now) fits here c.before-at.result c.next.at c.index-rows-here.result c.next.found c.here_or-found.result c.is_of_element-same.result a lt c.index-rows-here.is c.next.invariant.0 c.is_of_element-same.ensures c.here_or-found.ensures b,
      along-back element_of n rows here c.before-at.result le b,
    )
