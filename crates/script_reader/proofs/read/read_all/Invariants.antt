use Rattle.std.proofs.Common.{◌<◌, ◌≤◌, ℕ, List, length, unwrap_or}
use Rattle.script_reader.specs.Reading.{IsBounded, Reads}
use Rattle.script_reader.specs.Readers.{HasRead}
use Rattle.script_reader.proofs.read.read_all.Given as goal

abbrev pub invariant-piece : goal.invariant-piece
invariant-piece g l = record {
  full : 0 < length l.piece;
  bounded : IsBounded (g.S.Source.bound l.source);
  rises : g.S.Source.faults l.initial.source ≤ g.S.Source.faults l.source;
  bytes : List ℕ;
  reads : Reads (g.S.Source.left l.initial.source) (g.S.Source.left l.source) bytes;
  read : HasRead l.reader bytes;
}

abbrev pub decreases-piece : goal.decreases-piece
decreases-piece g l = unwrap_or (g.S.Source.bound l.source) 0
