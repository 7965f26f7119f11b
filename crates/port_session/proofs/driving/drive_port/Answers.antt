use Rattle.std.proofs.Common.{[], ◌∷◌, inl, inr, refl, append-nil}
use Rattle.port_events.specs.declared.event.What.TheVariants.{EndedOut}
use Rattle.port_session.specs.Driving.{calls_of}
use Rattle.port_session.specs.Events.{event}
use Rattle.port_session.proofs.Servings.{gains_more}
use Rattle.port_session.proofs.driving.drive_port.Goals as goal

pub returns-in-Ok-clause-opened : goal.returns-in-Ok-clause-opened
returns-in-Ok-clause-opened g c = let e = c.drive_source-end.ensures.driven in record {
  acts = e.acts;
  stage = e.stage;
  number = e.number;
  last = (event c.args.port EndedOut, c.in-Ok.answer) ∷ [];
  drives = e.drives;
  gained = gains_more _ _ _ _ _ _ _ _ _ _ _ c.drive_source-end.ensures.pass.1 e.gained c.in-Ok.ensures.ok;
  ended = inl (c.in-Ok.answer, refl);
  paced = e.paced;
  source_rises = e.source_rises;
  sink_rises = e.sink_rises;
  stops_rise = e.stops_rise;
  time = e.time;
  why = c.drive_source-end.result;
  how = e.how;
  end_is = inl refl;
}

pub returns-clause-opened : goal.returns-clause-opened
returns-clause-opened g c = let e = c.drive_source-end.ensures.driven in record {
  acts = e.acts;
  stage = e.stage;
  number = e.number;
  last = [];
  drives = e.drives;
  gained = rw c.in-Err.ensures.err (rw (append-nil (calls_of e.acts)) e.gained);
  ended = inr (refl, refl);
  paced = e.paced;
  source_rises = e.source_rises;
  sink_rises = e.sink_rises;
  stops_rise = e.stops_rise;
  time = e.time;
  why = c.drive_source-end.result;
  how = e.how;
  end_is = inr (refl, refl);
}
