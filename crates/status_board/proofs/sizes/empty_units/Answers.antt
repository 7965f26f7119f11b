use Rattle.std.proofs.Common.{◌≡◌, ◌+◌, arith}
use Rattle.status_board.proofs.Sums.{empty-is}
use Rattle.status_board.proofs.sizes.empty_units.Goals as goal

pub returns : goal.returns
returns c =
    let e = empty-is c.args.d c.args.ro.now in
    let t = c.text_units.ensures in
    let s = c.saturating_add.ensures in
    omega (arith, e, t, s)
