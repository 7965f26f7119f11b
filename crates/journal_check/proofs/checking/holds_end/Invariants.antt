use Rattle.std.proofs.Common.{length}
use Rattle.journal_check.proofs.checking.holds_end.Given as goal

abbrev pub decreases-loop-rest : goal.decreases-loop-rest
decreases-loop-rest l = length l.rest
