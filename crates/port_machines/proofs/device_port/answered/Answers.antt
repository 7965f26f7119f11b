use Rattle.mos_machines.specs.Values.{seen}
use Rattle.port_machines.proofs.ServerSaid.{answered-comes}
use Rattle.port_machines.proofs.device_port.answered.Goals as goal

pub returns : goal.returns
returns g c = answered-comes c.args.ncs.now c.upper_answer.new.self c.args.d c.args.link (seen c.args.message.now) c.upper_answer.result c.step_answer.result c.upper_answer.ensures.answer c.upper_answer.ensures.step c.upper_answer.ensures.rest c.step_answer.ensures
