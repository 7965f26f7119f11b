use Rattle.std.proofs.Common.{◌≡◌, ◌-◌, take, length}
use Rattle.mos_machines.specs.Tables.{gate_of}
use Rattle.state_listing.proofs.device.known_ids.Given as goal

abbrev pub invariant-known : goal.invariant-known
invariant-known l = l.ids.items ≡ take (length l.ids.items) (gate_of l.gate).known

abbrev pub decreases-known : goal.decreases-known
decreases-known l = length (gate_of l.gate).known - length l.ids.items
