use Rattle.mos_action_reading.proofs.AimLemmas.{action_aimed}
use Rattle.mos_action_reading.proofs.parts.action_slots.Goals as goal

pub returns-clause-aimed : goal.returns-clause-aimed
returns-clause-aimed c = action_aimed _ _ _ _ c.requires.1 c.in_ok-slots.ensures.fit c.in_ok-slots.ensures.events
