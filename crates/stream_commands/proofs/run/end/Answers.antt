use Rattle.std.proofs.Common.{length, Err, ap}
use Rattle.mos_fields.specs.Characters.{units_in}
use Rattle.stream_commands.proofs.RunLemmas.{ends_fault, ends_unwritten, ends_done, last_part}
use Rattle.stream_commands.proofs.run.end.Goals as goal

pub returns-in-Err : goal.returns-in-Err
returns-in-Err g c = record {
  ended = λ bytes start h.
      let t = c.hear_all.new.teller in
      ends_fault (g.T.Teller.told t) (g.T.Teller.last t) (g.T.Teller.refusal t) bytes _ start _ _ _ c.in-Err.status (c.in-Err.ensures.heard bytes start h);
  part = λ bytes start h e. c.in-Err.ensures.part bytes start h (ap Err e);
}

pub returns-in-Ok-write_last : goal.returns-in-Ok-write_last
returns-in-Ok-write_last g c = record {
  ended = λ bytes start h.
      let t = c.hear_all.new.teller in
      let x = c.in-Ok.ensures.heard bytes start h in
      ends_done (g.T.Teller.told t) (g.T.Teller.last t) (g.T.Teller.refusal t) bytes _ start (g.K.Sink.written c.hear_all.new.sink) (g.K.Sink.written c.write_last.new.sink) (g.K.Sink.faults c.args.sink.now) (g.K.Sink.faults c.write_last.new.sink) x
      (c.in-Ok-write_last.ensures.written bytes x.heard.found x.heard.handed);
  part = λ bytes start h e. absurd (cc);
}

pub returns-in-Err-write_last : goal.returns-in-Err-write_last
returns-in-Err-write_last g c = record {
  ended = λ bytes start h.
      let t = c.hear_all.new.teller in
      let x = c.in-Ok.ensures.heard bytes start h in
      ends_unwritten (g.T.Teller.told t) (g.T.Teller.last t) (g.T.Teller.refusal t) bytes (g.T.Teller.last t (length x.heard.found) (length (units_in bytes))) start (g.K.Sink.written c.hear_all.new.sink) (g.K.Sink.written c.write_last.new.sink)
      (g.K.Sink.faults c.args.sink.now) (g.K.Sink.faults c.hear_all.new.sink) (g.K.Sink.faults c.write_last.new.sink) c.in-Err-write_last.status c.hear_all.ensures.rises (c.in-Err-write_last.ensures.written bytes x.heard.found x.heard.handed);
  part = λ bytes start h e.
      let t = c.hear_all.new.teller in
      let x = c.in-Ok.ensures.heard bytes start h in
      last_part g.T.Teller.told (g.T.Teller.last t) (g.T.Teller.refusal t) bytes c.hear_all.new.decoder start (g.K.Sink.written c.hear_all.new.sink) (g.K.Sink.written c.write_last.new.sink) t x (c.in-Err-write_last.ensures.part (ap Err e) bytes x.heard.found x.heard.handed);
}
