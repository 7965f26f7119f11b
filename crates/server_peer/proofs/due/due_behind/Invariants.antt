use Rattle.std.proofs.Common.{None, length, ◌-◌}
use Rattle.server_peer.specs.Dues.{first_from, StandsFrom}
use Rattle.server_peer.proofs.due.due_behind.Given as goal

abbrev pub invariant-places : goal.invariant-places
invariant-places l = StandsFrom l.place (first_from l.journal None l.views)

abbrev pub decreases-places : goal.decreases-places
decreases-places l = length l.journal - l.place
