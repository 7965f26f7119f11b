use Rattle.std.proofs.Common.{◌≡◌, ◌+◌, ◌<◌, ◌∙◌, length, Ok, Err, refl, sym, ap, subst, arith}
use Rattle.std.specs.Prelude.{Some, None, false, true}
use Rattle.mos_reader.specs.Answers.{Answers}
use Rattle.mos_decoder.specs.Bytes.{HasHanded}
use Rattle.mos_decoder.proofs.TellingLemmas.{tells_next, found_grows, found_value}
use Rattle.mos_decoder.proofs.decoder.EventDecoder.next.Goals as goal

pub overflow_add-self : goal.overflow_add-self
overflow_add-self c =
    let g = (found_grows false _ c.self.inside.reader c.next.new.self c.in-Ok-Some.found (subst (λ z. Answers false c.self.inside.reader.fault c.self.inside.reader (Ok z) c.next.new.self) c.in-Ok-Some.field-0-is c.in-Ok-Some.ensures.answer)).onward in
    let i = c.self.invariant in
    let b = c.next.ensures.bounded in
    omega (arith, g, i, b)

pub invariant_of-self : goal.invariant_of-self
invariant_of-self c =
    let g = (found_grows false _ c.self.inside.reader c.next.new.self c.in-Ok-Some.found (subst (λ z. Answers false c.self.inside.reader.fault c.self.inside.reader (Ok z) c.next.new.self) c.in-Ok-Some.field-0-is c.in-Ok-Some.ensures.answer)).onward in
    let i = c.self.invariant in
    omega (arith, g, i)

pub returns-in-Ok-Some-clause-tells : goal.returns-in-Ok-Some-clause-tells
returns-in-Ok-Some-clause-tells c = λ bytes found h. tells_next record { stream = c.self.inside.reader; odd = c.self.inside.odd; count = c.self.inside.count } _ bytes found (subst (λ z. HasHanded z bytes found) (sym c.self.view_is) h) refl (Ok (Some c.in-Ok-Some.found)) (subst (λ z. Answers false c.self.inside.reader.fault c.self.inside.reader (Ok z) c.next.new.self) c.in-Ok-Some.field-0-is c.in-Ok-Some.ensures.answer) refl

pub returns-in-Ok-None-clause-tells : goal.returns-in-Ok-None-clause-tells
returns-in-Ok-None-clause-tells c = λ bytes found h. tells_next record { stream = c.self.inside.reader; odd = c.self.inside.odd; count = c.self.inside.count } _ bytes found (subst (λ z. HasHanded z bytes found) (sym c.self.view_is) h) refl (Ok None) (subst (λ z. Answers false c.self.inside.reader.fault c.self.inside.reader (Ok z) c.next.new.self) c.in-Ok-None.field-0-is c.in-Ok-None.ensures.answer) refl

pub returns-in-Err-clause-tells : goal.returns-in-Err-clause-tells
returns-in-Err-clause-tells c = λ bytes found h. tells_next record { stream = c.self.inside.reader; odd = c.self.inside.odd; count = c.self.inside.count } _ bytes found (subst (λ z. HasHanded z bytes found) (sym c.self.view_is) h) refl (Err c.in-Err.fault) c.in-Err.ensures.answer refl

pub returns-in-Ok-Some-clause-shorter : goal.returns-in-Ok-Some-clause-shorter
returns-in-Ok-Some-clause-shorter c =
    subst (λ z. length c.next.new.self.held < length z.stream.held) c.self.view_is
    (found_grows false _ c.self.inside.reader c.next.new.self c.in-Ok-Some.found (subst (λ z. Answers false c.self.inside.reader.fault c.self.inside.reader (Ok z) c.next.new.self) c.in-Ok-Some.field-0-is c.in-Ok-Some.ensures.answer)).shorter

pub returns-in-Ok-Some-clause-value : goal.returns-in-Ok-Some-clause-value
returns-in-Ok-Some-clause-value c = found_value false _ c.self.inside.reader c.next.new.self c.in-Ok-Some.found (subst (λ z. Answers false c.self.inside.reader.fault c.self.inside.reader (Ok z) c.next.new.self) c.in-Ok-Some.field-0-is c.in-Ok-Some.ensures.answer)
