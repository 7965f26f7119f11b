use Rattle.std.proofs.Common.{length, ◌-◌}
use Rattle.ncs_core.specs.State.{given_by}
use Rattle.ncs_core.proofs.GivenPeers.{IsGiven}
use Rattle.ncs_core.proofs.giving.give_all.Given as goal

abbrev pub invariant-peers : goal.invariant-peers
invariant-peers l = IsGiven (given_by l.ro l.is_whole l.n) l.initial.peers l.peers l.d

abbrev pub decreases-peers : goal.decreases-peers
decreases-peers l = length l.initial.peers - l.d
