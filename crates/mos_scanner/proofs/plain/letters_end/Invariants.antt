use Rattle.std.proofs.Common.{◌≡◌, ℕ, ◌<◌, ◌≤◌, ◌-◌, true, get_or}
use Rattle.mos_fields.specs.Names.{is_further}
use Rattle.mos_scanner.proofs.plain.letters_end.Given as goal

abbrev pub invariant-fours : goal.invariant-fours
invariant-fours l = (l.n ≤ l.end) × (l.from ≤ l.n) × ((k : ℕ) → l.from ≤ k → k < l.n → is_further (get_or l.s k 0) ≡ true)

abbrev pub decreases-fours : goal.decreases-fours
decreases-fours l = l.end - l.n

abbrev pub invariant-last : goal.invariant-last
invariant-last l = (l.n ≤ l.end) × (l.from ≤ l.n) × ((k : ℕ) → l.from ≤ k → k < l.n → is_further (get_or l.s k 0) ≡ true)

abbrev pub decreases-last : goal.decreases-last
decreases-last l = l.end - l.n
