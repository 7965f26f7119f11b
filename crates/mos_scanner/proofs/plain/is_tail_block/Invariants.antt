use Rattle.std.proofs.Common.{◌≡◌, ℕ, ◌<◌, ◌≤◌, ◌+◌, true, false, get_or}
use Rattle.mos_scanner.specs.Runs.{is_plain_but}
use Rattle.mos_scanner.proofs.plain.is_tail_block.Given as goal

abbrev pub invariant-loop-k : goal.invariant-loop-k
invariant-loop-k l = l.hit ≡ false → (j : ℕ) → l.from ≤ j → j < l.from + l.k → is_plain_but 62 62 62 (get_or l.s j 0) ≡ true
