use Rattle.std.proofs.Common.{length}
use Rattle.mos_columns.proofs.counts.+find_lack.Given as goal

abbrev pub decreases-find_lack : goal.decreases-find_lack
decreases-find_lack l = length l.columns.now
