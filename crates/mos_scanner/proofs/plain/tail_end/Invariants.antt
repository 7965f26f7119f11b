use Rattle.std.proofs.Common.{◌≡◌, ℕ, ◌<◌, ◌≤◌, ◌-◌, true, length, get_or}
use Rattle.mos_scanner.specs.Runs.{is_plain_but}
use Rattle.mos_scanner.proofs.plain.tail_end.Given as goal

abbrev pub invariant-loop-n : goal.invariant-loop-n
invariant-loop-n l = (l.n ≤ length l.s) × (l.from ≤ l.n) × ((k : ℕ) → l.from ≤ k → k < l.n → is_plain_but 62 62 62 (get_or l.s k 0) ≡ true)

abbrev pub decreases-loop-n : goal.decreases-loop-n
decreases-loop-n l = length l.s - l.n

abbrev pub invariant-last : goal.invariant-last
invariant-last l = (l.n ≤ length l.s) × (l.from ≤ l.n) × ((k : ℕ) → l.from ≤ k → k < l.n → is_plain_but 62 62 62 (get_or l.s k 0) ≡ true)

abbrev pub decreases-last : goal.decreases-last
decreases-last l = length l.s - l.n
