use Rattle.mos_cursor.proofs.Fill.{FilledSoFar}
use Rattle.mos_cursor.proofs.record.fill.Given as goal

abbrev pub invariant-loop-column : goal.invariant-loop-column
invariant-loop-column l = FilledSoFar l.columns l.initial.cursor l.cursor l.slots l.column-index l.at
