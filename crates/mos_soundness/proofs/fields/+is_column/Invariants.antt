use Rattle.std.proofs.Common.{length}
use Rattle.mos_soundness.proofs.fields.+is_column.Given as goal

abbrev pub decreases-is_column : goal.decreases-is_column
decreases-is_column l = length l.columns.now
