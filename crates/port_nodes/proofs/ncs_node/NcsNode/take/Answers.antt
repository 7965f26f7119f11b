use Rattle.std.proofs.Common.{sym, ◌∙◌}
use Rattle.port_nodes.proofs.KeptDevices.{devices_stay}
use Rattle.port_nodes.proofs.ncs_node.NcsNode.take.Goals as goal

pub invariant_of-self-in-Editor : goal.invariant_of-self-in-Editor
invariant_of-self-in-Editor g c = c.self-in-Editor.invariant ∙ sym (devices_stay c.self-in-Editor.inside.machine c.take-in-Editor.new.self c.args.event.now c.take-in-Editor.result c.take-in-Editor.ensures.ok c.take-in-Editor.ensures.err)
