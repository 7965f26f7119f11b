use Rattle.std.proofs.Common.{Option, refl, subst}
use Rattle.mos_fields.specs.declared.time.MosTime.{MosTime}
use Rattle.mos_io.specs.Paces.{Tells}
use Rattle.port_events.specs.declared.event.What.TheVariants.{Dialed, Next, Answered, Beat}
use Rattle.port_session.specs.Driving.{dialed_to, next_to, answered_to, beaten_to}
use Rattle.port_session.proofs.Drivings.{told_on, wrote_next, heard_on, more_on, paused_on, no_event, is_over, read_over, write_fails, stood, numbers_left, stands_dialed, stands_next, stands_answered, stands_beaten, speaks_dialed, speaks_next, speaks_answered, speaks_beaten}
use Rattle.port_session.proofs.Readings.{last_whole}
use Rattle.port_session.proofs.driving.step.Goals as goal

pub next_number-number-requires : goal.next_number-number-requires
next_number-number-requires g c = numbers_left _ _ _ _ _ _ _ _ _ _ _ _ _ (c.requires.driving.2) c.in-Writes.is _ refl

pub answered-requires-clause-sound : goal.answered-requires-clause-sound
answered-requires-clause-sound g c = stood _ _ _ _ _ _ _ _ _ _ _ _ _ (c.requires.driving.2) c.in-Hears.is

pub returns-in-Ok-clause-step : goal.returns-in-Ok-clause-step
returns-in-Ok-clause-step g c seen was w = told_on _ _ _ _ _ _ _ _ _ _ _ _ _ w c.in-Begins.is _ _ (Dialed c.now-time.result) dialed_to _ c.now-time.ensures.kept c.in-Ok.ensures.ok
    (λ a. ((c.now-time.result, subst (λ (o : Option MosTime). Tells o c.now-time.result) w.time c.now-time.ensures.told, refl), refl, refl)) (λ a. stands_dialed a _ _) tt speaks_dialed

pub returns-in-Err-clause-step : goal.returns-in-Err-clause-step
returns-in-Err-clause-step g c seen was w = rw c.in-Err.ensures.err (no_event _ _ _ _ _ _ _ _ _ _ _ _ _ w c.in-Begins.is _ c.now-time.ensures.kept)

pub returns-in-Ok-next-clause-step : goal.returns-in-Ok-next-clause-step
returns-in-Ok-next-clause-step g c seen was w = told_on _ _ _ _ _ _ _ _ _ _ _ _ _ w c.in-Ready.is _ _ (Next c.now-time-in-Ready.result) next_to _ c.now-time-in-Ready.ensures.kept c.in-Ok-next.ensures.ok
    (λ a. ((c.now-time-in-Ready.result, subst (λ (o : Option MosTime). Tells o c.now-time-in-Ready.result) w.time c.now-time-in-Ready.ensures.told, refl), refl, refl)) (λ a. stands_next a _ _) tt speaks_next

pub returns-in-Err-next-clause-step : goal.returns-in-Err-next-clause-step
returns-in-Err-next-clause-step g c seen was w = rw c.in-Err-next.ensures.err (no_event _ _ _ _ _ _ _ _ _ _ _ _ _ w c.in-Ready.is _ c.now-time-in-Ready.ensures.kept)

pub returns-in-Ok-write_own-clause-step : goal.returns-in-Ok-write_own-clause-step
returns-in-Ok-write_own-clause-step g c seen was w = wrote_next _ _ _ _ _ _ _ _ _ _ _ _ _ w c.in-Writes.is c.in-Writes.message refl _ _ c.next_number-number.result c.next_number-number.ensures c.in-Ok-write_own.ensures.wrote c.write_own.ensures.rises

pub returns-in-Err-write_own-clause-step : goal.returns-in-Err-write_own-clause-step
returns-in-Err-write_own-clause-step g c seen was w = write_fails _ _ _ _ _ _ _ _ _ _ _ _ _ w c.in-Writes.is _ _ c.in-Writes.message c.in-Err-write_own.end refl c.next_number-number.result c.next_number-number.ensures c.in-Err-write_own.ensures.wrote c.write_own.ensures.rises

pub returns-in-More-clause-step : goal.returns-in-More-clause-step
returns-in-More-clause-step g c seen was w = more_on _ _ _ _ _ _ _ _ _ _ _ _ _ w c.in-Awaits.is _ _ _ (c.in-More.ensures.next _ _ _ w.reads)

pub returns-in-Over-advance-clause-step : goal.returns-in-Over-advance-clause-step
returns-in-Over-advance-clause-step g c seen was w = read_over _ _ _ _ _ _ _ _ _ _ _ _ _ w c.in-Awaits.is _ _ _ _ refl (c.in-Over-advance.ensures.next _ _ _ w.reads).0

pub returns-in-Message-clause-step : goal.returns-in-Message-clause-step
returns-in-Message-clause-step g c seen was w = let r = c.in-Message.ensures.next _ _ _ w.reads in heard_on _ _ _ _ _ _ _ _ _ _ _ _ _ w c.in-Awaits.is refl _ _ _ c.in-Message.e r (last_whole _ _ r.whole).sound

pub returns-in-Ok-answered-clause-step : goal.returns-in-Ok-answered-clause-step
returns-in-Ok-answered-clause-step g c seen was w = told_on _ _ _ _ _ _ _ _ _ _ _ _ _ w c.in-Hears.is _ _ (Answered c.in-Hears.e.message) (answered_to c.in-Hears.e.message) _ refl c.in-Ok-answered.ensures.ok
    (λ a. (refl, refl, refl)) (λ a. stands_answered c.in-Hears.e.message a _ _) tt (speaks_answered c.in-Hears.e.message)

pub returns-in-Err-answered-clause-step : goal.returns-in-Err-answered-clause-step
returns-in-Err-answered-clause-step g c seen was w = rw c.in-Err-answered.ensures.err (no_event _ _ _ _ _ _ _ _ _ _ _ _ _ w c.in-Hears.is _ refl)

pub returns-in-Rests-clause-step : goal.returns-in-Rests-clause-step
returns-in-Rests-clause-step g c seen was w = paused_on _ _ _ _ _ _ _ _ _ _ _ _ _ w c.in-Rests.is refl _ _ _ _ c.pause.ensures.taken c.pause.ensures.rises c.pause.ensures.stopped c.after_pause.ensures

pub returns-in-Ok-beaten-clause-step : goal.returns-in-Ok-beaten-clause-step
returns-in-Ok-beaten-clause-step g c seen was w = told_on _ _ _ _ _ _ _ _ _ _ _ _ _ w c.in-Beats.is _ _ Beat beaten_to _ refl c.in-Ok-beaten.ensures.ok
    (λ a. (refl, refl, refl)) (λ a. stands_beaten a _ _) tt speaks_beaten

pub returns-in-Err-beaten-clause-step : goal.returns-in-Err-beaten-clause-step
returns-in-Err-beaten-clause-step g c seen was w = rw c.in-Err-beaten.ensures.err (no_event _ _ _ _ _ _ _ _ _ _ _ _ _ w c.in-Beats.is _ refl)

pub returns-in-Over-clause-step : goal.returns-in-Over-clause-step
returns-in-Over-clause-step g c seen was w = is_over _ _ _ _ _ _ _ _ _ _ _ _ _ w c.in-Over.is c.in-Over.end refl
