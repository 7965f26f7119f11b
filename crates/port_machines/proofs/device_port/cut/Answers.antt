use Rattle.port_machines.proofs.ServerSaid.{cut-comes}
use Rattle.port_machines.proofs.device_port.cut.Goals as goal

pub returns : goal.returns
returns g c = cut-comes c.args.ncs.now c.upper_cut.new.self c.args.d c.args.link c.upper_cut.result c.step_answer.result c.upper_cut.ensures.answer c.upper_cut.ensures.step c.upper_cut.ensures.rest c.step_answer.ensures
