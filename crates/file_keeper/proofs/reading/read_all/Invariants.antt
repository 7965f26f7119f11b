use Rattle.std.proofs.Common.{◌≡◌, length}
use Rattle.file_keeper.specs.Reading.{HasCome}
use Rattle.file_keeper.proofs.reading.read_all.Given as goal

abbrev pub invariant-piece : goal.invariant-piece
invariant-piece g l = HasCome (g.F.Read.remaining l.initial.file) (g.F.Read.remaining l.file) l.total l.reader × (length l.piece ≡ 65536)
