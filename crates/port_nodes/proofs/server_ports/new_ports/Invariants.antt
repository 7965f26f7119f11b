use Rattle.std.proofs.Common.{◌≤◌, ◌-◌, length}
use Rattle.port_nodes.specs.ServerNodes.{AreNewSides}
use Rattle.port_nodes.proofs.server_ports.new_ports.Given as goal

abbrev pub invariant-ports : goal.invariant-ports
invariant-ports l = AreNewSides l.ports.items × (length l.ports.items ≤ l.devices)

abbrev pub decreases-ports : goal.decreases-ports
decreases-ports l = l.devices - length l.ports.items
