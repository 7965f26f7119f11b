use Rattle.std.proofs.Common.{◌≡◌, ℕ, ◌<◌, ◌-◌, get_or}
use Rattle.mos_columns.proofs.names.is_long_text.Given as goal

abbrev pub invariant-loop-n : goal.invariant-loop-n
invariant-loop-n l = (k : ℕ) → k < l.n → get_or l.name k 0 ≡ get_or l.units k 0

abbrev pub decreases-loop-n : goal.decreases-loop-n
decreases-loop-n l = l.last - l.n
