use Rattle.server_serving.proofs.starting.start_node.Goals as goal

pub returns-in-Err-clause-fault : goal.returns-in-Err-clause-fault
returns-in-Err-clause-fault g c = c.not_started.ensures.cause c.args.keeper c.in-Err.ensures.fault
