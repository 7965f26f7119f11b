use Rattle.std.proofs.Common.{length, ◌-◌}
use Rattle.ncs_core.proofs.GivenPeers.{IsReserved}
use Rattle.ncs_core.proofs.giving.reserve_all.Given as goal

abbrev pub invariant-peers : goal.invariant-peers
invariant-peers l = IsReserved l.is_whole l.ro l.initial.peers l.peers l.d

abbrev pub decreases-peers : goal.decreases-peers
decreases-peers l = length l.initial.peers - l.d
