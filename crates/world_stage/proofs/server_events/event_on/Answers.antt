use Rattle.world_stage.proofs.server_events.event_on.Goals as goal

pub returns-in-Cut-clause-step : goal.returns-in-Cut-clause-step
returns-in-Cut-clause-step c = rw c.in-Cut.is (λ n l p m r. c.cut.ensures.step n c.args.connections.now l p m)

pub returns-in-Miss-clause-step : goal.returns-in-Miss-clause-step
returns-in-Miss-clause-step c = rw c.in-Miss.is (λ n l p m r. c.miss.ensures.step n c.args.connections.now l p m)

pub returns-in-Beat-clause-step : goal.returns-in-Beat-clause-step
returns-in-Beat-clause-step c = rw c.in-Beat.is (λ n l p m r. c.beat.ensures.step n c.args.connections.now l p m)

pub returns-in_ok-take_back-in-Back-clause-step : goal.returns-in_ok-take_back-in-Back-clause-step
returns-in_ok-take_back-in-Back-clause-step c = rw c.in-Back.is (λ n l p m r. c.in_ok-take_back-in-Back.ensures.step n l p m r)

pub returns-in-Admit-clause-step : goal.returns-in-Admit-clause-step
returns-in-Admit-clause-step c = rw c.in-Admit.is (λ n l p m r. c.admit.ensures.step n l p m)

pub returns-in_ok-send-in-Send-clause-step : goal.returns-in_ok-send-in-Send-clause-step
returns-in_ok-send-in-Send-clause-step c = rw c.in-Send.is (λ n l p m r. c.in_ok-send-in-Send.ensures.step n l p m r)

pub returns-in_ok-hear-in-Hear-clause-step : goal.returns-in_ok-hear-in-Hear-clause-step
returns-in_ok-hear-in-Hear-clause-step c = rw c.in-Hear.is (λ n l p m r. c.in_ok-hear-in-Hear.ensures.step n l p m r)
