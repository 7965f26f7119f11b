use Rattle.std.proofs.Common.{◌≡◌, ◌≤◌}
use Rattle.line_reader.specs.Lines.{HasRoom}
use Rattle.edit_runs.specs.Runs.{Talking, line_front, sides}
use Rattle.edit_runs.proofs.run.run_all.Given as goal

abbrev pub invariant-loop : goal.invariant-loop
invariant-loop g l = record {
  room : HasRoom l.reader;
  most : l.reader.most ≡ line_front;
  rises : g.S.Source.faults l.initial.source ≤ g.S.Source.faults l.source;
  talking : Talking l.names (g.S.Source.left l.initial.source) (g.S.Source.left l.source) l.reader
      (sides (g.C.Source.left l.initial.from) (g.C.Source.faults l.initial.from) (g.D.Sink.written l.initial.to) (g.D.Sink.faults l.initial.to) (g.K.Sink.written l.initial.out) (g.K.Sink.faults l.initial.out) (g.E.Sink.written l.initial.notes) (g.E.Sink.faults l.initial.notes))
      (sides (g.C.Source.left l.from) (g.C.Source.faults l.from) (g.D.Sink.written l.to) (g.D.Sink.faults l.to) (g.K.Sink.written l.out) (g.K.Sink.faults l.out) (g.E.Sink.written l.notes) (g.E.Sink.faults l.notes)) l.counts l.inlet;
}
