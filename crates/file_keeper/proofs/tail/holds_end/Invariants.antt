use Rattle.std.proofs.Common.{◌↔◌, length}
use Rattle.file_keeper.specs.Tails.{HoldsEnd}
use Rattle.file_keeper.proofs.tail.holds_end.Given as goal

abbrev pub invariant-byte : goal.invariant-byte
invariant-byte l = HoldsEnd l.rest ↔ HoldsEnd l.bytes

abbrev pub decreases-byte : goal.decreases-byte
decreases-byte l = length l.rest
