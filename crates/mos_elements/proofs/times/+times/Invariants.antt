use Rattle.std.proofs.Common.{length}
use Rattle.mos_elements.proofs.times.+times.Given as goal

abbrev pub decreases-times : goal.decreases-times
decreases-times l = length l.columns.now
