use Rattle.std.proofs.Common.{◌≤◌, ◌-◌, length}
use Rattle.ncs_core.specs.State.{AreNew}
use Rattle.ncs_core.proofs.starting.new_peers.Given as goal

abbrev pub invariant-peers : goal.invariant-peers
invariant-peers l = AreNew l.peers.items × (length l.peers.items ≤ l.devices)

abbrev pub decreases-peers : goal.decreases-peers
decreases-peers l = l.devices - length l.peers.items
