use Rattle.std.proofs.Common.{refl}
use Rattle.mos_machines.specs.Steps.ServerEvent.{UpperOpened}
use Rattle.mos_values.specs.declared.message.Message.TheVariants as carried
use Rattle.port_replies.specs.Ports.{greets}
use Rattle.port_events.specs.declared.answer.PortAnswer.TheVariants as answers
use Rattle.port_machines.proofs.ServerSaid.{comes}
use Rattle.port_machines.proofs.device_port.dialed.Goals as goal

pub returns : goal.returns
returns g c = comes c.args.ncs.now c.upper_opened.new.self (UpperOpened c.args.d c.args.link) (greets c.args.now.now) (answers.Say (carried.Heartbeat c.args.now.now)) tt c.upper_opened.ensures.step c.upper_opened.ensures.rest refl
