use Rattle.std.proofs.Common.{ℕ, ◌<◌, ◌≤◌, ◌-◌, length}
use Rattle.mos_forms.specs.Tails.{IsNoEnd}
use Rattle.mos_forms.proofs.tail.next_end.Given as goal

abbrev pub invariant-loop-n : goal.invariant-loop-n
invariant-loop-n l = (l.n ≤ length l.text) × (l.from ≤ l.n) × ((k : ℕ) → l.from ≤ k → k < l.n → IsNoEnd l.text l.back k)

abbrev pub decreases-loop-n : goal.decreases-loop-n
decreases-loop-n l = length l.text - l.n

abbrev pub invariant-loop-n-2 : goal.invariant-loop-n-2
invariant-loop-n-2 l = (l.n ≤ length l.text) × (l.from ≤ l.n) × ((k : ℕ) → l.from ≤ k → k < l.n → IsNoEnd l.text l.back k)

abbrev pub decreases-loop-n-2 : goal.decreases-loop-n-2
decreases-loop-n-2 l = length l.text - l.n
