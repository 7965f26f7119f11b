use Rattle.std.proofs.Common.{◌≡◌, length}
use Rattle.status_board.specs.Numbers.{mix_all}
use Rattle.status_board.proofs.numbers.mix_all.Given as goal

abbrev pub invariant-next : goal.invariant-next
invariant-next l = mix_all l.mixed l.rest ≡ mix_all l.n l.units

abbrev pub decreases-next : goal.decreases-next
decreases-next l = length l.rest
