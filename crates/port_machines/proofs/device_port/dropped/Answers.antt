use Rattle.port_machines.proofs.ServerSaid.{dropped-comes}
use Rattle.port_machines.proofs.device_port.dropped.Goals as goal

pub returns : goal.returns
returns g c = dropped-comes c.args.ncs.now c.device_dropped.new.self c.args.d c.args.link c.device_dropped.result c.step_answer.result c.device_dropped.ensures.answer c.device_dropped.ensures.step c.device_dropped.ensures.rest c.step_answer.ensures
