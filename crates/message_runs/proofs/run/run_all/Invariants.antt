use Rattle.message_runs.specs.Given.{Giving, sides}
use Rattle.message_runs.proofs.run.run_all.Given as goal

abbrev pub invariant-loop : goal.invariant-loop
invariant-loop g l = Giving (g.S.Source.left l.initial.source) (g.S.Source.faults l.initial.source) (g.S.Source.left l.source) (g.S.Source.faults l.source)
    (sides (g.C.Source.left l.initial.from) (g.C.Source.faults l.initial.from) (g.D.Sink.written l.initial.to) (g.D.Sink.faults l.initial.to) (g.K.Sink.written l.initial.out) (g.K.Sink.faults l.initial.out))
    (sides (g.C.Source.left l.from) (g.C.Source.faults l.from) (g.D.Sink.written l.to) (g.D.Sink.faults l.to) (g.K.Sink.written l.out) (g.K.Sink.faults l.out)) l.good l.stream l.inlet
