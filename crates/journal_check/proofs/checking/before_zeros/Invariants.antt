use Rattle.std.proofs.Common.{◌≡◌, ◌≤◌, length, drop}
use Rattle.std.specs.List.{AllByRecursion}
use Rattle.journal_check.proofs.checking.before_zeros.Given as goal

abbrev pub invariant-loop-count : goal.invariant-loop-count
invariant-loop-count l = (l.count ≤ length l.bytes) × AllByRecursion (λ b. b ≡ 0) (drop l.count l.bytes)

abbrev pub decreases-loop-count : goal.decreases-loop-count
decreases-loop-count l = l.count
