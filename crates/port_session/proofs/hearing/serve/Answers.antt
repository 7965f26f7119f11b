use Rattle.std.proofs.Common.{[], inl, refl}
use Rattle.mos_codec.specs.Codec.{encoding}
use Rattle.port_session.specs.Messages.{refusal, reply}
use Rattle.port_session.proofs.Servings.{gains_none, turned_away}
use Rattle.port_session.proofs.hearing.serve.Goals as goal

pub returns-in-Ok-clause-exchanged : goal.returns-in-Ok-clause-exchanged
returns-in-Ok-clause-exchanged g c = record {
  calls = [];
  out = encoding (reply c.args.e (refusal c.args.port.now.side c.args.e.message));
  gained = gains_none _ _ _ _ _ _;
  wrote = c.in-Ok.ensures.wrote;
  served = inl (c.is_for.ensures.no c.if-is_for.false, refl, refl, refl);
}

pub returns-in-Err-clause-exchanged : goal.returns-in-Err-clause-exchanged
returns-in-Err-clause-exchanged g c = let t = turned_away c.args.port.now c.args.on c.args.e _ _ _ _ c.in-Err.end (c.is_for.ensures.no c.if-is_for.false) c.in-Err.ensures.wrote in record {
  calls = [];
  out = t.0;
  gained = gains_none _ _ _ _ _ _;
  wrote = t.1;
  served = t.2;
}
