use Rattle.std.proofs.Common.{◌≡◌, ◌+◌, ◌<◌, ◌≤◌, ℕ, List, length, unwrap_or}
use Rattle.stream_commands.specs.Running.{IsBegun, IsBounded, Reads, HasHeard}
use Rattle.stream_commands.proofs.run.read_all.Given as goal

abbrev pub invariant-piece : goal.invariant-piece
invariant-piece g l = record {
  full : 0 < length l.piece;
  bounded : IsBounded (g.S.Source.bound l.source);
  source_rises : g.S.Source.faults l.initial.source ≤ g.S.Source.faults l.source;
  sink_rises : g.K.Sink.faults l.initial.sink ≤ g.K.Sink.faults l.sink;
  bytes : List ℕ;
  reads : Reads (g.S.Source.left l.initial.source) (g.S.Source.left l.source) bytes;
  heard : HasHeard (g.T.Teller.told l.teller) bytes l.decoder (g.K.Sink.written l.initial.sink) (g.K.Sink.written l.sink);
  whole : IsBegun bytes heard.found;
  spent : unwrap_or (g.S.Source.bound l.initial.source) 0 ≡ unwrap_or (g.S.Source.bound l.source) 0 + length bytes;
}

abbrev pub decreases-piece : goal.decreases-piece
decreases-piece g l = unwrap_or (g.S.Source.bound l.source) 0
