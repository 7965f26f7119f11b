use Rattle.ncs_core.specs.State.{devices_of}
use Rattle.port_replies.specs.Ports.{server_editor, server_upper}
use Rattle.port_machines.proofs.PortSteps.{answers-event, editor-asked, upper-asked}
use Rattle.port_machines.proofs.server.ServerMachine.take.Goals as goal

pub returns-in-Upper-clause-ok : goal.returns-in-Upper-clause-ok
returns-in-Upper-clause-ok g c =
    answers-event c.self.inside.ncs c.args.self.now c.device_port.new.ncs c.args.event.now (server_upper c.args.event.now.device c.args.event.now.link c.args.event.now.what) c.device_port.result c.self.view_is
    (upper-asked (devices_of c.self.inside.ncs) c.devices.result c.self.inside.ncs.server.journal c.args.event.now c.devices.ensures.number c.in-Upper.is c.if-event-devices.true) c.device_port.ensures.ok

pub returns-in-Editor-clause-ok : goal.returns-in-Editor-clause-ok
returns-in-Editor-clause-ok g c =
    answers-event c.self.inside.ncs c.args.self.now c.editor_port.new.ncs c.args.event.now (server_editor c.self.inside.ncs.server.journal c.args.event.now.what) c.editor_port.result c.self.view_is
    (editor-asked (devices_of c.self.inside.ncs) c.self.inside.ncs.server.journal c.args.event.now c.in-Editor.is) c.editor_port.ensures.ok
