use Rattle.std.proofs.Common.{◌≡◌, ◌++◌, ◌∷◌, [], length, sym, ap, subst, arith}
use Rattle.std.proofs.lemmas.List.{length_push}
use Rattle.ncs_core.specs.State.{AreNew}
use Rattle.ncs_core.proofs.GivenPeers.{new-more}
use Rattle.ncs_core.proofs.starting.new_peers.Goals as goal

pub peers-preserved : goal.peers-preserved
peers-preserved c =
    let items : c.push.new.self.items ≡ c.peers.peers.items ++ c.new.result ∷ [] = c.in_ok-push.ensures.items in
    let longer = length_push c.peers.peers.items c.new.result in
    let count : length c.push.new.self.items ≡ length (c.peers.peers.items ++ c.new.result ∷ []) = ap length items in
    (subst AreNew (sym items) (new-more c.peers.peers.items c.new.result c.peers.invariant.0 c.new.ensures), omega (arith, longer, count))
