use Rattle.std.proofs.Common.{length}
use Rattle.mos_columns.proofs.counts.+any_counted.Given as goal

abbrev pub decreases-any_counted : goal.decreases-any_counted
decreases-any_counted l = length l.counts.now
