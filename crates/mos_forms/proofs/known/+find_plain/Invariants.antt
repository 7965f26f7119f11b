use Rattle.std.proofs.Common.{length}
use Rattle.mos_forms.proofs.known.+find_plain.Given as goal

abbrev pub decreases-find_plain : goal.decreases-find_plain
decreases-find_plain l = length l.values.now
