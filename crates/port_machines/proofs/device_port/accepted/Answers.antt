use Rattle.std.proofs.Common.{refl}
use Rattle.mos_machines.specs.Steps.ServerEvent.{DeviceAccepted}
use Rattle.port_replies.specs.Ports.{said}
use Rattle.port_events.specs.declared.answer.PortAnswer.TheVariants as answers
use Rattle.port_machines.proofs.ServerSaid.{comes}
use Rattle.port_machines.proofs.device_port.accepted.Goals as goal

pub returns : goal.returns
returns g c = comes c.args.ncs.now c.device_accepted.new.self (DeviceAccepted c.args.d c.args.link) said answers.Done tt c.device_accepted.ensures.step c.device_accepted.ensures.rest refl
