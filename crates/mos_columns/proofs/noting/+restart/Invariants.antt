use Rattle.std.proofs.Common.{length}
use Rattle.mos_columns.proofs.noting.+restart.Given as goal

abbrev pub decreases-restart : goal.decreases-restart
decreases-restart l = length l.columns.now
