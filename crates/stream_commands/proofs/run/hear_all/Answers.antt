use Rattle.std.proofs.Common.{◌≡◌, ◌≤◌, Ok, subst, arith}
use Rattle.stream_commands.specs.Running.{TellsAt}
use Rattle.mos_decoder.specs.Bytes.{HandsValue, found_of}
use Rattle.stream_commands.specs.declared.status.Status.TheVariants as statuses
use Rattle.stream_commands.proofs.RunLemmas.{heard_more, heard_all, hears_fault, stopped_heard, message_part, refusal_part}
use Rattle.stream_commands.proofs.run.hear_all.Goals as goal

pub message-preserved : goal.message-preserved
message-preserved g c =
    let i = c.message.invariant.rises in
    let j = c.hear_message.ensures.rises in
    record {
      heard = λ bytes start h.
          heard_more (g.T.Teller.told c.message.teller) (g.T.Teller.told c.hear_message.new.teller) c.args.at_end bytes c.message.decoder c.ask.new.decoder start (g.K.Sink.written c.message.sink) (g.K.Sink.written c.hear_message.new.sink) (g.K.Sink.faults c.message.sink) (g.K.Sink.faults c.hear_message.new.sink) c.in-Ok-Some.found
          (λ found k. subst (λ z. TellsAt c.args.at_end bytes found (Ok z) c.ask.new.decoder) c.in-Ok-Some.field-0-is (c.in-Ok-Some.ensures.tells bytes found k)) (c.message.invariant.heard bytes start h)
          c.in-Ok.ensures.written;
      rises = omega (arith, i, j);
    }

pub hear_message-requires : goal.hear_message-requires
hear_message-requires g c = subst (λ z. HandsValue (Ok z)) c.in-Ok-Some.field-0-is c.in-Ok-Some.ensures.value

pub returns-in-Err-hear_message-clause-heard : goal.returns-in-Err-hear_message-clause-heard
returns-in-Err-hear_message-clause-heard g c = λ bytes start h.
    hears_fault (g.T.Teller.told c.hear_message.new.teller) (g.T.Teller.refusal c.hear_message.new.teller) (g.T.Teller.told c.message.teller) (found_of c.in-Ok-Some.found) c.args.at_end bytes c.in-Err-hear_message.status c.ask.new.decoder start
    (g.K.Sink.written c.message.sink) (g.K.Sink.written c.hear_message.new.sink) (g.K.Sink.faults c.args.sink.now) (g.K.Sink.faults c.message.sink) (g.K.Sink.faults c.hear_message.new.sink) c.message.invariant.rises
    c.in-Err-hear_message.ensures.written

pub returns-in-Ok-None-clause-heard : goal.returns-in-Ok-None-clause-heard
returns-in-Ok-None-clause-heard g c = λ bytes start h.
    heard_all (g.T.Teller.told c.message.teller) (g.T.Teller.refusal c.message.teller) c.args.at_end bytes c.message.decoder c.ask.new.decoder start _
    (λ found k. subst (λ z. TellsAt c.args.at_end bytes found (Ok z) c.ask.new.decoder) c.in-Ok-None.field-0-is (c.in-Ok-None.ensures.tells bytes found k)) (c.message.invariant.heard bytes start h)

pub returns-in-Err-clause-heard : goal.returns-in-Err-clause-heard
returns-in-Err-clause-heard g c = λ bytes start h.
    stopped_heard (g.T.Teller.told c.message.teller) (g.T.Teller.refusal c.message.teller) c.args.at_end bytes c.in-Err.fault c.message.decoder c.ask.new.decoder start _ _ _ _ _ c.stop.result (λ found k. c.in-Err.ensures.tells bytes found k)
    (c.message.invariant.heard bytes start h) c.message.invariant.rises c.stop.ensures.written

pub returns-in-Err-hear_message-clause-part : goal.returns-in-Err-hear_message-clause-part
returns-in-Err-hear_message-clause-part g c = λ bytes start h e.
    message_part g.T.Teller.told (g.T.Teller.last c.hear_message.new.teller) (g.T.Teller.refusal c.hear_message.new.teller) bytes c.message.decoder start (g.K.Sink.written c.message.sink) (g.K.Sink.written c.hear_message.new.sink) c.message.teller c.hear_message.new.teller c.args.at_end c.ask.new.decoder c.in-Ok-Some.found
    (λ found k. subst (λ z. TellsAt c.args.at_end bytes found (Ok z) c.ask.new.decoder) c.in-Ok-Some.field-0-is (c.in-Ok-Some.ensures.tells bytes found k)) (c.message.invariant.heard bytes start h) (c.in-Err-hear_message.ensures.part e)

pub returns-in-Err-clause-part : goal.returns-in-Err-clause-part
returns-in-Err-clause-part g c = λ bytes start h e.
    let i : c.stop.result ≡ statuses.WriteFault = cc in
    refusal_part g.T.Teller.told (g.T.Teller.last c.message.teller) (g.T.Teller.refusal c.message.teller) bytes c.message.decoder start (g.K.Sink.written c.message.sink) (g.K.Sink.written c.stop.new.sink) c.message.teller c.args.at_end c.ask.new.decoder c.in-Err.fault
    (λ found k. c.in-Err.ensures.tells bytes found k) (c.message.invariant.heard bytes start h) (c.stop.ensures.part i)
