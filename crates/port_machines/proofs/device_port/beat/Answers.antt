use Rattle.std.proofs.Common.{refl}
use Rattle.mos_machines.specs.Steps.ServerEvent.{Beat}
use Rattle.port_replies.specs.Ports.{said}
use Rattle.port_events.specs.declared.answer.PortAnswer.TheVariants as answers
use Rattle.port_machines.proofs.ServerSaid.{comes}
use Rattle.port_machines.proofs.device_port.beat.Goals as goal

pub returns : goal.returns
returns g c = comes c.args.ncs.now c.beat.new.self (Beat c.args.d) said answers.Done tt c.beat.ensures.step c.beat.ensures.rest refl
