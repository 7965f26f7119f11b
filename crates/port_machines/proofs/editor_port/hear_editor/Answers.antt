use Rattle.std.proofs.Common.{sym, ◌∙◌}
use Rattle.port_machines.proofs.EditorSaid.{hears-edit}
use Rattle.port_machines.proofs.editor_port.hear_editor.Goals as goal

pub returns-in-Some-clause-ok : goal.returns-in-Some-clause-ok
returns-in-Some-clause-ok g c = hears-edit c.args.ncs.now c.command_of.new.ncs c.message-message.result.now c.args.message.now c.in-Some.edit c.command_of.result c.message-message.ensures.value (sym c.in_ok-edit.ensures ∙ c.in-Some.is) c.command_of.ensures.ok
