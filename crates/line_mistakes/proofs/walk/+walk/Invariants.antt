use Rattle.std.proofs.Common.{length}
use Rattle.line_mistakes.proofs.walk.+walk.Given as goal

abbrev pub decreases-walk : goal.decreases-walk
decreases-walk l = length l.kinds.now
