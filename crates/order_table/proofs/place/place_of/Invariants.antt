use Rattle.std.proofs.Common.{◌-◌, ◌≤◌, length}
use Rattle.mos_edits.specs.Rows.{row_ids}
use Rattle.order_table.specs.Rows.{count_before}
use Rattle.order_table.proofs.place.place_of.Given as goal

abbrev pub invariant-halves : goal.invariant-halves
invariant-halves g l = record { low : l.low ≤ count_before l.ro (row_ids l.rows); high : count_before l.ro (row_ids l.rows) ≤ l.high; within : l.high ≤ length l.rows }

abbrev pub decreases-halves : goal.decreases-halves
decreases-halves g l = l.high - l.low
