use Rattle.port_session.specs.Answering.{sides}
use Rattle.port_jobs.proofs.Servings.{served_found}
use Rattle.port_jobs.proofs.serving.serve_named.Goals as goal

pub returns-in-Ok-clause-served : goal.returns-in-Ok-clause-served
returns-in-Ok-clause-served g c = served_found g.M.StepRelation.steps g.M.StepRelation.refusal g.M.StepRelation.decks_left c.args.hub.now.start.0 c.args.pass.now.caller c.args.pass.now.seen c.serve_device.new.pass.seen c.args.port c.args.names.now c.args.number c.args.budget
    (g.S.Source.left c.args.source) (g.S.Source.left c.in-Ok.source.source) (g.S.Source.faults c.args.source) (g.S.Source.faults c.in-Ok.source.source) (g.K.Sink.written c.args.sink.now) (g.K.Sink.faults c.args.sink.now)
    (sides (g.S.Source.left c.serve_device.result.0) (g.S.Source.faults c.serve_device.result.0) (g.K.Sink.written c.serve_device.new.sink) (g.K.Sink.faults c.serve_device.new.sink)) c.serve_device.result.1 c.serve_device.result.2
    c.in-Ok.device c.in-Ok.source.bytes c.in-Ok.ensures.taken c.in-Ok.ensures.left c.in-Ok.ensures.rises c.in-Ok.ensures.looks c.serve_device.ensures.served
