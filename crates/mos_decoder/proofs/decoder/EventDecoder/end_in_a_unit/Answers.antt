use Rattle.std.proofs.Common.{◌<◌, length, Ok, Err, refl, subst, sym}
use Rattle.mos_reader.specs.Answers.{fed}
use Rattle.mos_decoder.specs.Bytes.{HandsValue, OnFound, Tells, TellsEnd}
use Rattle.mos_decoder.proofs.TellingLemmas.{told_ended, ended_odd}
use Rattle.mos_decoder.proofs.decoder.EventDecoder.end_in_a_unit.Goals as goal

pub returns-in-Ok-Some-clause-tells : goal.returns-in-Ok-Some-clause-tells
returns-in-Ok-Some-clause-tells c = λ bytes found h. subst (λ z. Tells bytes found (Ok z) c.next.new.self) c.in-Ok-Some.field-0-is (c.in-Ok-Some.ensures.tells bytes found h)

pub returns-in-Ok-None-clause-tells : goal.returns-in-Ok-None-clause-tells
returns-in-Ok-None-clause-tells c = λ bytes found h.
    let t = c.next.new.self in
    let told = subst (λ z. Tells bytes found (Ok z) t) c.in-Ok-None.field-0-is (c.in-Ok-None.ensures.tells bytes found h) in
    subst (λ z. TellsEnd bytes found (Err z) c.cut_off.new.self) (sym c.cut_off.ensures.fault) (ended_odd c.args.self.now t bytes found (fed t.stream) h c.requires told refl)

pub returns-in-Err-clause-tells : goal.returns-in-Err-clause-tells
returns-in-Err-clause-tells c = λ bytes found h. told_ended bytes found c.in-Err.fault _ (c.in-Err.ensures.tells bytes found h)

pub returns-in-Ok-Some-clause-shorter : goal.returns-in-Ok-Some-clause-shorter
returns-in-Ok-Some-clause-shorter c = subst (λ z. OnFound (Ok z) (length c.next.new.self.stream.held < length c.args.self.now.stream.held)) c.in-Ok-Some.field-0-is c.in-Ok-Some.ensures.shorter

pub returns-in-Ok-Some-clause-value : goal.returns-in-Ok-Some-clause-value
returns-in-Ok-Some-clause-value c = subst (λ z. HandsValue (Ok z)) c.in-Ok-Some.field-0-is c.in-Ok-Some.ensures.value
