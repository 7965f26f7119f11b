use Rattle.std.proofs.Common.{◌≡◌, ℕ, ◌<◌, ◌≤◌, ◌-◌, true, get_or}
use Rattle.mos_fields.specs.Names.{is_further}
use Rattle.mos_scanner.proofs.plain.name_end.Given as goal

abbrev pub invariant-loop-n : goal.invariant-loop-n
invariant-loop-n l = (l.n ≤ l.end) × (l.from ≤ l.n) × ((k : ℕ) → l.from ≤ k → k < l.n → is_further (get_or l.s k 0) ≡ true)

abbrev pub decreases-loop-n : goal.decreases-loop-n
decreases-loop-n l = l.end - l.n
