use Rattle.std.proofs.Common.{rules, refl, sym, ◌∙◌, arith}
use Rattle.std.proofs.lemmas.Grind.{common_steps}
use Rattle.port_session.specs.declared.end.End.TheVariants.{Stopped}
use Rattle.port_dialing.specs.Dialing.{dropped, drove, missed, stopped}
use Rattle.port_dialing.proofs.Dialings.{driven_once, is_stopped_is}
use Rattle.port_dialing.proofs.dialing.dial_once.Goals as goal

pub returns-in_default-clause-tries : goal.returns-in_default-clause-tries
returns-in_default-clause-tries g c = (
  missed c.pause-pace.result,
  record {
    links = first_of (search rules, grind (arith, common_steps));
    dialed = c.dial.ensures.called;
    dials_rise = c.dial.ensures.calls_rise;
    paced = c.pause-pace.ensures.taken;
    stops_rise = c.pause-pace.ensures.rises;
    stopped = c.pause-pace.ensures.stopped;
    time = refl;
    seen = refl;
  },
  c.is_stop.ensures,
  refl,
)

pub returns-in_default-link_port-clause-tries : goal.returns-in_default-link_port-clause-tries
returns-in_default-link_port-clause-tries g c = (
  dropped c.in-Ok.link.number c.pause-pace-in_default-link_port.result,
  record {
    links = c.in-Ok.ensures.gives;
    dialed = c.dial.ensures.called;
    dials_rise = c.dial.ensures.calls_rise;
    paced = c.pause-pace-in_default-link_port.ensures.taken;
    stops_rise = c.pause-pace-in_default-link_port.ensures.rises;
    stopped = c.pause-pace-in_default-link_port.ensures.stopped;
    time = refl;
    seen = refl;
  },
  c.is_stop-in_default-link_port.ensures,
  refl,
)

pub returns-then-is_stopped-clause-tries : goal.returns-then-is_stopped-clause-tries
returns-then-is_stopped-clause-tries g c = (
  stopped c.in-Ok.link.number,
  driven_once g.M.StepRelation.steps g.M.StepRelation.refusal g.M.StepRelation.decks_left _ _ _ _ _ _ c.in-Ok.link.number c.in-Ok-link_port.here c.drive_port-end.result Stopped _ _
      c.in-Ok-link_port.ensures (is_stopped_is c.drive_port-end.result (sym c.is_stopped.ensures ∙ c.if-is_stopped.true)) c.in-Ok.ensures.gives c.dial.ensures.called c.dial.ensures.calls_rise c.drive_port-end.ensures.opened refl refl refl refl refl refl,
  refl,
  refl,
)

pub returns-clause-tries : goal.returns-clause-tries
returns-clause-tries g c = (
  drove c.in-Ok.link.number c.drive_port-end.result c.pause-pace-2.result,
  record {
    paces = g.P.Pacer.paces c.drive_port-end.new.pacer;
    stops = g.P.Pacer.stops c.drive_port-end.new.pacer;
    driven = driven_once g.M.StepRelation.steps g.M.StepRelation.refusal g.M.StepRelation.decks_left _ _ _ _ _ _ c.in-Ok.link.number c.in-Ok-link_port.here c.drive_port-end.result c.drive_port-end.result _ _
        c.in-Ok-link_port.ensures refl c.in-Ok.ensures.gives c.dial.ensures.called c.dial.ensures.calls_rise c.drive_port-end.ensures.opened refl refl refl refl refl refl;
    goes_on = sym c.is_stopped.ensures ∙ c.if-is_stopped.false;
    paced = c.pause-pace-2.ensures.taken;
    stops_rise = c.pause-pace-2.ensures.rises;
    stopped = c.pause-pace-2.ensures.stopped;
  },
  c.is_stop-2.ensures,
  c.is_no_memory.ensures,
)
