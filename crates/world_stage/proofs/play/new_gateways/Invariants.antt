use Rattle.std.proofs.Common.{◌≤◌, ◌-◌, length}
use Rattle.world_stage.specs.Playing.{AreNew}
use Rattle.world_stage.proofs.play.new_gateways.Given as goal

abbrev pub invariant-gateways : goal.invariant-gateways
invariant-gateways l = AreNew l.gateways.items × (length l.gateways.items ≤ l.devices)

abbrev pub decreases-gateways : goal.decreases-gateways
decreases-gateways l = l.devices - length l.gateways.items
