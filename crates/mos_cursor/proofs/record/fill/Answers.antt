use Rattle.std.proofs.Common.{arith}
use Rattle.mos_cursor.proofs.Fill.{fill_end}
use Rattle.mos_cursor.proofs.record.fill.Goals as goal

pub returns : goal.returns
returns c =
    fill_end c.args.columns.now c.args.cursor.now c.loop-column.cursor c.loop-column.slots c.loop-column.column-index c.loop-column.at c.loop-column.invariant (omega (arith, c.loop-column-test.false))
