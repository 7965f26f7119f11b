use Rattle.std.proofs.Common.{◌≡◌, ◌+◌, ◌-◌, ◌/◌, ◌<◌, true, false, length, slice_get, Some, refl, sym, ap, ◌∙◌, arith}
use Rattle.std.proofs.lemmas.Option.{slice_get_read}
use Rattle.mos_edits.specs.Entries.{is_before}
use Rattle.order_table.proofs.AscendingRows.{count-within, count-above, count-below}
use Rattle.order_table.proofs.place.place_of.Goals as goal

pub halves-init : goal.halves-init
halves-init g c = record { low = omega arith; high = count-within c.args.ro.now c.args.rows.now; within = omega arith }

pub halves-preserved-then-is_before : goal.halves-preserved-then-is_before
halves-preserved-then-is_before g c =
    let m = c.halves.low + (c.halves.high - c.halves.low) / 2 in
    let x = c.index-rows-middle.result in
    let lt : m < length c.args.rows.now = omega (arith, c.halves.invariant.within, c.halves-test.true) in
    let at : slice_get c.args.rows.now m ≡ Some x = slice_get_read c.args.rows.now (length c.args.rows.now) m x refl lt c.index-rows-middle.is in
    let b : is_before x.0 c.args.ro.now ≡ true = ap (λ z. is_before z.0 c.args.ro.now) c.index-rows-middle.is ∙ (sym c.is_before.ensures ∙ c.if-is_before.true) in
    record { low = count-above c.args.ro.now c.args.rows.now m x c.requires at b; high = c.halves.invariant.high; within = c.halves.invariant.within }

pub halves-preserved : goal.halves-preserved
halves-preserved g c =
    let m = c.halves.low + (c.halves.high - c.halves.low) / 2 in
    let x = c.index-rows-middle.result in
    let lt : m < length c.args.rows.now = omega (arith, c.halves.invariant.within, c.halves-test.true) in
    let at : slice_get c.args.rows.now m ≡ Some x = slice_get_read c.args.rows.now (length c.args.rows.now) m x refl lt c.index-rows-middle.is in
    let b : is_before x.0 c.args.ro.now ≡ false = ap (λ z. is_before z.0 c.args.ro.now) c.index-rows-middle.is ∙ (sym c.is_before.ensures ∙ c.if-is_before.false) in
    record { low = c.halves.invariant.low; high = count-below c.args.ro.now c.args.rows.now m x at b; within = omega (arith, lt) }
