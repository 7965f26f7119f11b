use Rattle.std.proofs.Common.{◌≡◌, ℕ, ◌<◌, ◌≤◌, ◌-◌, ◌+◌, true, get_or}
use Rattle.mos_fields.specs.Names.{is_further}
use Rattle.mos_scanner.proofs.plain.letters_of_four.Given as goal

abbrev pub invariant-loop-count : goal.invariant-loop-count
invariant-loop-count l = (l.count ≤ 4) × ((k : ℕ) → l.from ≤ k → k < l.from + l.count → is_further (get_or l.s k 0) ≡ true)

abbrev pub decreases-loop-count : goal.decreases-loop-count
decreases-loop-count l = 4 - l.count
