use Rattle.std.proofs.Common.{◌≡◌, List, false}
use Rattle.std.specs.List.{AllByRecursion}
use Rattle.shared_machine.specs.Passes.{IsPassOf}
use Rattle.port_dialing.specs.Dialing.{Dials, Try, any_starved, is_last, worker}
use Rattle.port_dialing.proofs.dialing.dial_all.Given as goal

abbrev pub invariant-loop : goal.invariant-loop
invariant-loop g l = record {
  own : IsPassOf l.hub l.pass;
  caller : l.pass.caller ≡ l.initial.pass.caller;
  tries : List Try;
  dials : Dials g.M.StepRelation.steps g.M.StepRelation.refusal g.M.StepRelation.decks_left l.hub.start.0 l.initial.pass.caller l.port l.budget
      (worker (g.Di.Dialer.links l.initial.dialer) (g.Di.Dialer.calls l.initial.dialer) (g.P.Pacer.paces l.initial.pacer) (g.P.Pacer.stops l.initial.pacer) (g.C.Clock.time l.initial.clock) l.initial.pass.seen)
      (worker (g.Di.Dialer.links l.dialer) (g.Di.Dialer.calls l.dialer) (g.P.Pacer.paces l.pacer) (g.P.Pacer.stops l.pacer) (g.C.Clock.time l.clock) l.pass.seen) tries;
  goes_on : AllByRecursion (λ (x : Try). is_last x ≡ false) tries;
  starves : l.starved ≡ any_starved tries;
}
