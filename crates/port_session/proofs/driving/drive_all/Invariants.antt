use Rattle.std.proofs.Common.{◌≡◌}
use Rattle.shared_machine.specs.Passes.{IsPassOf}
use Rattle.port_session.specs.Driven.{Driving, reach}
use Rattle.port_session.proofs.driving.drive_all.Given as goal

abbrev pub invariant-loop : goal.invariant-loop
invariant-loop g l = record {
  own : IsPassOf l.hub l.pass;
  caller : l.pass.caller ≡ l.initial.pass.caller;
  budget : l.inlet.budget ≡ l.initial.inlet.budget;
  driving : Driving g.M.StepRelation.steps g.M.StepRelation.refusal g.M.StepRelation.decks_left l.hub.start.0 l.initial.pass.caller l.initial.pass.seen l.pass.seen l.port
      (reach (g.S.Source.left l.initial.source) (g.S.Source.faults l.initial.source) (g.K.Sink.written l.initial.sink) (g.K.Sink.faults l.initial.sink) (g.P.Pacer.paces l.initial.pacer) (g.P.Pacer.stops l.initial.pacer) (g.C.Clock.time l.initial.clock))
      (reach (g.S.Source.left l.source) (g.S.Source.faults l.source) (g.K.Sink.written l.sink) (g.K.Sink.faults l.sink) (g.P.Pacer.paces l.pacer) (g.P.Pacer.stops l.pacer) (g.C.Clock.time l.clock)) l.inlet l.at;
}
