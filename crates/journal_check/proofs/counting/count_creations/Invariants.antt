use Rattle.std.proofs.Common.{◌≡◌, ◌+◌, ◌≤◌, length}
use Rattle.journal_check.specs.Checks.{creations}
use Rattle.journal_check.proofs.counting.count_creations.Given as goal

abbrev pub decreases-loop-rest : goal.decreases-loop-rest
decreases-loop-rest l = length l.rest

abbrev pub invariant-loop-rest : goal.invariant-loop-rest
invariant-loop-rest l = (l.count + creations l.rest ≡ creations l.entries) × (l.count + length l.rest ≤ length l.entries)
