use Rattle.port_machines.proofs.ServerSaid.{sent-comes}
use Rattle.port_machines.proofs.device_port.next.Goals as goal

pub returns-clause-ok : goal.returns-clause-ok
returns-clause-ok g c = sent-comes c.args.ncs.now c.next_send.new.self c.args.d c.args.link c.args.now.now c.in_ok-sent.sent c.sent_answer.result c.in_ok-sent.ensures.answer c.in_ok-sent.ensures.step c.next_send.ensures.rest c.sent_answer.ensures
