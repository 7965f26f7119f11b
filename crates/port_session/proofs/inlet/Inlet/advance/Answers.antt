use Rattle.port_session.proofs.Readings.{handed, unhanded}
use Rattle.port_session.proofs.inlet.Inlet.advance.Goals as goal

pub returns-in-Some-clause-next : goal.returns-in-Some-clause-next
returns-in-Some-clause-next g c l f given r = handed l f _ _ _ _ _ _ given r c.next.new.self c.in-Some.envelope c.in-Some.ensures.hands c.in-Some.ensures.taken
    (record { named = c.in-Some.ensures.named; in_range = c.in-Some.ensures.in_range; sound = c.in-Some.ensures.sound })

pub returns-in-None-clause-next : goal.returns-in-None-clause-next
returns-in-None-clause-next g c l f given r = c.go_on.ensures.next l f given (unhanded l f _ _ _ _ _ _ given r c.next.new.self c.in-None.ensures.hands)
