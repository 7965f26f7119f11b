use Rattle.std.proofs.Common.{length}
use Rattle.mos_columns.proofs.noting.+bump.Given as goal

abbrev pub decreases-bump : goal.decreases-bump
decreases-bump l = length l.columns.now
