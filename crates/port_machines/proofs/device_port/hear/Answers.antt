use Rattle.mos_machines.specs.Values.{seen}
use Rattle.port_machines.proofs.ServerSaid.{heard-comes}
use Rattle.port_machines.proofs.device_port.hear.Goals as goal

pub returns-clause-ok : goal.returns-clause-ok
returns-clause-ok g c = heard-comes c.args.ncs.now c.hear.new.self c.args.d c.args.link (seen c.args.message.now) c.in_ok-heard.heard c.heard_answer.result c.in_ok-heard.ensures.answer c.in_ok-heard.ensures.step c.hear.ensures.rest c.heard_answer.ensures
