use Rattle.std.proofs.Common.{refl}
use Rattle.world_stage.proofs.ServerSteps.{admission}
use Rattle.world_stage.proofs.Tables.{leaves-written}
use Rattle.world_stage.proofs.server_events.admit.Goals as goal

pub returns-clause-server : goal.returns-clause-server
returns-clause-server c = leaves-written c.args.ncs.now c.device_accepted.new.self c.args.d _ c.device_accepted.ensures.step c.device_accepted.ensures.rest

pub returns-clause-step : goal.returns-clause-step
returns-clause-step c = λ n l p m.
    let done = c.if-not-accept.ensures.done refl l.connections m in
    admission l c.args.ncs.now c.device_accepted.new.self c.accept.new.connections c.args.d c.args.c _ done.0 done.1 p c.device_accepted.ensures.step done.2 refl
