use Rattle.std.proofs.Common.{length}
use Rattle.mos_elements.proofs.arranging.+take_columns.Given as goal

abbrev pub decreases-take_columns : goal.decreases-take_columns
decreases-take_columns l = length l.columns.now
