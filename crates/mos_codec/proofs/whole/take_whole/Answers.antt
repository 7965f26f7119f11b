use Rattle.std.proofs.Common.{false, Ok, subst}
use Rattle.mos_decoder.specs.Bytes.{HandsValue, Tells, found_of}
use Rattle.mos_reader.specs.Answers.{Answers}
use Rattle.mos_codec.specs.Decoding.{with_ready}
use Rattle.mos_codec.proofs.Taken.{coming-more, first-stopped, first-whole, handed-more, ready-more, stopped-read, whole-read}
use Rattle.mos_codec.proofs.whole.take_whole.Goals as goal

pub message-preserved : goal.message-preserved
message-preserved c =
    let f = c.in-Ok-Some.found in
    let more = c.in-Ok.ensures.more in
    record {
      handed = λ bytes found h.
          handed-more c.next.new.self bytes found (found_of f) c.message.ready.items c.push_message.new.ready.items more
          (subst (λ z. Tells bytes (with_ready found c.message.ready.items) (Ok z) c.next.new.self) c.in-Ok-Some.field-0-is (c.in-Ok-Some.ensures.tells bytes (with_ready found c.message.ready.items) (c.message.invariant.handed bytes found h)));
      ready = λ h. ready-more (found_of f) c.message.ready.items c.push_message.new.ready.items more (c.message.invariant.ready h);
      first = λ e us rest h clean held none.
          coming-more c.encodings_are_read.ensures c.events_pin_envelopes.ensures e us rest c.message.events.stream c.next.new.self.stream f c.message.ready.items c.push_message.new.ready.items h more
          (subst (λ z. Answers false c.message.events.stream.fault c.message.events.stream (Ok z) c.next.new.self.stream) c.in-Ok-Some.field-0-is c.in-Ok-Some.ensures.answer) (c.message.invariant.first e us rest h clean held none);
    }

pub push_message-requires : goal.push_message-requires
push_message-requires c = subst (λ z. HandsValue (Ok z)) c.in-Ok-Some.field-0-is c.in-Ok-Some.ensures.value

pub returns-in-Ok-None-clause-took : goal.returns-in-Ok-None-clause-took
returns-in-Ok-None-clause-took c = λ bytes found h.
    whole-read bytes (with_ready found c.message.ready.items) c.next.new.self
    (subst (λ z. Tells bytes (with_ready found c.message.ready.items) (Ok z) c.next.new.self) c.in-Ok-None.field-0-is (c.in-Ok-None.ensures.tells bytes (with_ready found c.message.ready.items) (c.message.invariant.handed bytes found h)))

pub returns-in-Ok-None-clause-first : goal.returns-in-Ok-None-clause-first
returns-in-Ok-None-clause-first c = λ e us rest h clean held none.
    first-whole c.encodings_are_read.ensures e us rest c.message.events.stream c.next.new.self.stream c.message.ready.items h
    (subst (λ z. Answers false c.message.events.stream.fault c.message.events.stream (Ok z) c.next.new.self.stream) c.in-Ok-None.field-0-is c.in-Ok-None.ensures.answer) (c.message.invariant.first e us rest h clean held none)

pub returns-in-Err-clause-took : goal.returns-in-Err-clause-took
returns-in-Err-clause-took c = λ bytes found h.
    let here = c.message.invariant.handed bytes found h in
    stopped-read bytes found c.message.events c.next.new.self c.message.ready.items c.in-Err.fault here c.in-Err.ensures.answer c.in-Err.ensures.odd (c.in-Err.ensures.tells bytes (with_ready found c.message.ready.items) here)

pub returns-in-Err-clause-first : goal.returns-in-Err-clause-first
returns-in-Err-clause-first c = λ e us rest h clean held none.
    first-stopped c.encodings_are_read.ensures e us rest c.message.events.stream c.next.new.self.stream c.message.ready.items c.in-Err.fault h c.in-Err.ensures.answer (c.message.invariant.first e us rest h clean held none)
