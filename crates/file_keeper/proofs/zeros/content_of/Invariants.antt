use Rattle.std.proofs.Common.{◌≡◌, ◌≤◌, length}
use Rattle.file_keeper.proofs.zeros.content_of.Given as goal

abbrev pub invariant-piece : goal.invariant-piece
invariant-piece g l = (l.end ≤ l.size) × (length l.piece ≡ 65536)

abbrev pub decreases-piece : goal.decreases-piece
decreases-piece g l = l.end
