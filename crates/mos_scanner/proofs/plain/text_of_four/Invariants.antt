use Rattle.std.proofs.Common.{◌≡◌, ℕ, ◌<◌, ◌≤◌, ◌-◌, ◌+◌, true, get_or}
use Rattle.mos_scanner.specs.Runs.{is_plain_but}
use Rattle.mos_scanner.proofs.plain.text_of_four.Given as goal

abbrev pub invariant-loop-count : goal.invariant-loop-count
invariant-loop-count l = (l.count ≤ 4) × ((k : ℕ) → l.from ≤ k → k < l.from + l.count → is_plain_but 60 38 38 (get_or l.s k 0) ≡ true)

abbrev pub decreases-loop-count : goal.decreases-loop-count
decreases-loop-count l = 4 - l.count
