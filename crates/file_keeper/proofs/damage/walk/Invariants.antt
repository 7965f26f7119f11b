use Rattle.std.proofs.Common.{◌≡◌, []}
use Rattle.file_keeper.proofs.damage.walk.Given as goal

abbrev pub invariant-piece : goal.invariant-piece
invariant-piece g l = l.reader.decoder.ready ≡ []
