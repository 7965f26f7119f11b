use Rattle.std.proofs.Common.{length}
use Rattle.mos_forms.proofs.known.+find_known.Given as goal

abbrev pub decreases-find_known : goal.decreases-find_known
decreases-find_known l = length l.values.now
