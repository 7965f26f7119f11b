use Rattle.std.proofs.Common.{length}
use Rattle.input_looks.proofs.look.+has_return.Given as goal

abbrev pub decreases-has_return : goal.decreases-has_return
decreases-has_return l = length l.first.now
