use Rattle.std.proofs.Common.{◌≡◌, ℕ, ◌<◌, ◌≤◌, ◌-◌, true, length, get_or}
use Rattle.mos_scanner.specs.Runs.{is_plain_but}
use Rattle.mos_scanner.proofs.plain.value_end.Given as goal

abbrev pub invariant-loop-n : goal.invariant-loop-n
invariant-loop-n l = (l.n ≤ length l.s) × (l.from ≤ l.n) × ((k : ℕ) → l.from ≤ k → k < l.n → is_plain_but l.quote 38 60 (get_or l.s k 0) ≡ true)

abbrev pub decreases-loop-n : goal.decreases-loop-n
decreases-loop-n l = length l.s - l.n
