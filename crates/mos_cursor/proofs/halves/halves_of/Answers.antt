use Rattle.mos_cursor.proofs.HalfLemmas.{fit_front, fit_back, events_halves}
use Rattle.mos_cursor.proofs.halves.halves_of.Goals as goal

pub returns-clause-front : goal.returns-clause-front
returns-clause-front g c = fit_front _ _ _ _ _ c.in_ok-slots.ensures.fit c.in_ok-halves.ensures.front

pub returns-clause-back : goal.returns-clause-back
returns-clause-back g c = fit_back _ _ _ _ _ c.in_ok-slots.ensures.fit c.in_ok-halves.ensures.back

pub returns-clause-events : goal.returns-clause-events
returns-clause-events g c = events_halves _ _ _ _ _ _ _ c.in_ok-slots.ensures.fit c.in_ok-slots.ensures.events c.in_ok-halves.ensures.front c.in_ok-halves.ensures.back
