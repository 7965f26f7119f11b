use Rattle.std.proofs.Common.{[], ◌∷◌, inl, inr, refl, append-nil}
use Rattle.port_events.specs.declared.event.What.TheVariants.{EndedIn}
use Rattle.port_session.specs.Events.{event}
use Rattle.port_session.proofs.Servings.{gains_more}
use Rattle.port_session.proofs.answering.answer_port.Goals as goal

pub returns-in-Ok-clause-accepted : goal.returns-in-Ok-clause-accepted
returns-in-Ok-clause-accepted g c = let e = c.serve_source-end.ensures.ended in record {
  served = e.served;
  calls = e.calls;
  last = (event c.args.port EndedIn, c.in-Ok.answer) ∷ [];
  out = e.out;
  gained = gains_more _ _ _ _ _ _ _ _ _ _ _ c.serve_source-end.ensures.pass.1 e.gained c.in-Ok.ensures.ok;
  ended = inl (c.in-Ok.answer, refl);
  wrote = e.wrote;
  source_rises = e.source_rises;
  sink_rises = e.sink_rises;
  why = c.serve_source-end.result;
  how = e.how;
  end_is = inl refl;
}

pub returns-clause-accepted : goal.returns-clause-accepted
returns-clause-accepted g c = let e = c.serve_source-end.ensures.ended in record {
  served = e.served;
  calls = e.calls;
  last = [];
  out = e.out;
  gained = rw c.in-Err.ensures.err (rw (append-nil e.calls) e.gained);
  ended = inr (refl, refl);
  wrote = e.wrote;
  source_rises = e.source_rises;
  sink_rises = e.sink_rises;
  why = c.serve_source-end.result;
  how = e.how;
  end_is = inr (refl, refl);
}
