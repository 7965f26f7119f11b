use Rattle.world_stage.proofs.device_events.device_event.Goals as goal

pub returns-in_ok-dial-in-Dial-clause-step : goal.returns-in_ok-dial-in-Dial-clause-step
returns-in_ok-dial-in-Dial-clause-step c = rw c.in-Dial.is (λ j l g m r a. c.in_ok-dial-in-Dial.ensures.step j l g m)
