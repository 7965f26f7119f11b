use Rattle.std.proofs.Common.{◌≡◌, ◌+◌, ◌<◌, ◌≤◌, ℕ, List, length, unwrap_or}
use Rattle.stream_commands.specs.Running.{IsBegun, IsBounded, Reads}
use Rattle.object_reading.specs.Progress.{HasTaken}
use Rattle.object_reading.proofs.reading.take_all.Given as goal

abbrev pub invariant-piece : goal.invariant-piece
invariant-piece g l = record {
  full : 0 < length l.piece;
  bounded : IsBounded (g.S.Source.bound l.source);
  rises : g.S.Source.faults l.initial.source ≤ g.S.Source.faults l.source;
  bytes : List ℕ;
  reads : Reads (g.S.Source.left l.initial.source) (g.S.Source.left l.source) bytes;
  here : HasTaken bytes l.decoder l.table;
  begun : IsBegun bytes here.found;
  spent : unwrap_or (g.S.Source.bound l.initial.source) 0 ≡ unwrap_or (g.S.Source.bound l.source) 0 + length bytes;
}

abbrev pub decreases-piece : goal.decreases-piece
decreases-piece g l = unwrap_or (g.S.Source.bound l.source) 0
