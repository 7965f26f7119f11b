use Rattle.std.proofs.Common.{◌≡◌}
use Rattle.order_table.proofs.AscendingRows.{map_front}
use Rattle.order_table.proofs.row_change.change_rows.Given as goal

abbrev pub invariant-loop-row : goal.invariant-loop-row
invariant-loop-row g l = l.rows ≡ map_front (g.C.RowChange.changed l.change) l.row-index l.initial.rows
