use Rattle.world_stage.proofs.device_events.event_on.Goals as goal

pub returns-in-Accept-clause-step : goal.returns-in-Accept-clause-step
returns-in-Accept-clause-step c = rw c.in-Accept.is (λ j n l g m r a. c.accept.ensures.step j n l g m)

pub returns-in-Leave-clause-step : goal.returns-in-Leave-clause-step
returns-in-Leave-clause-step c = rw c.in-Leave.is (λ j n l g m r a. c.leave.ensures j n c.args.d c.args.connections.now l g m)

pub returns-in-Hangup-clause-step : goal.returns-in-Hangup-clause-step
returns-in-Hangup-clause-step c = rw c.in-Hangup.is (λ j n l g m r a. c.hang_up.ensures j n c.args.d c.args.connections.now l g m)

pub returns-in-DeviceBeat-clause-step : goal.returns-in-DeviceBeat-clause-step
returns-in-DeviceBeat-clause-step c = rw c.in-DeviceBeat.is (λ j n l g m r a. c.beat.ensures j n c.args.d c.args.connections.now l g m)

pub returns-in-DecksLeft-clause-step : goal.returns-in-DecksLeft-clause-step
returns-in-DecksLeft-clause-step c = rw c.in-DecksLeft.is (λ j n l g m r a. c.leave_decks.ensures j n c.args.d c.args.connections.now l g m)

pub returns-in-Reboot-clause-step : goal.returns-in-Reboot-clause-step
returns-in-Reboot-clause-step c = rw c.in-Reboot.is (λ j n l g m r a. c.reboot.ensures j n c.args.d c.args.connections.now l g m)

pub returns-in_ok-read-in-Read-clause-step : goal.returns-in_ok-read-in-Read-clause-step
returns-in_ok-read-in-Read-clause-step c = rw c.in-Read.is (λ j n l g m r a. c.in_ok-read-in-Read.ensures.step j n l g m r a)

pub returns-in_ok-ask-in-Ask-clause-step : goal.returns-in_ok-ask-in-Ask-clause-step
returns-in_ok-ask-in-Ask-clause-step c = rw c.in-Ask.is (λ j n l g m r a. c.in_ok-ask-in-Ask.ensures.step j n l g m r)

pub returns-in_ok-get-in-Got-clause-step : goal.returns-in_ok-get-in-Got-clause-step
returns-in_ok-get-in-Got-clause-step c = rw c.in-Got.is (λ j n l g m r a. c.in_ok-get-in-Got.ensures.step j n l g m r a)

pub returns-in_ok-want-in-Want-clause-step : goal.returns-in_ok-want-in-Want-clause-step
returns-in_ok-want-in-Want-clause-step c = rw c.in-Want.is (λ j n l g m r a. c.in_ok-want-in-Want.ensures j n c.args.d c.args.connections.now l g m)
