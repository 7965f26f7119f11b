use Rattle.std.proofs.Common.{◌≡◌, ◌≤◌, length, drop}
use Rattle.std.specs.List.{AllByRecursion}
use Rattle.file_keeper.proofs.zeros.before_zeros.Given as goal

abbrev pub invariant-loop-count : goal.invariant-loop-count
invariant-loop-count l = (l.count ≤ length l.piece) × AllByRecursion (λ b. b ≡ 0) (drop l.count l.piece)

abbrev pub decreases-loop-count : goal.decreases-loop-count
decreases-loop-count l = l.count
