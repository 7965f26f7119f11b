use Rattle.std.proofs.Common.{◌≡◌, ap, subst, arith}
use Rattle.mos_machines.specs.Server.{PeerState, peer_answered}
use Rattle.mos_machines.specs.Tables.{peer_of}
use Rattle.server_peer.specs.Dues.{IsIdleBefore}
use Rattle.ncs_core.specs.State.{states}
use Rattle.ncs_core.proofs.GivenPeers.{table-is}
use Rattle.ncs_core.proofs.LookedRows.{looked-placed}
use Rattle.ncs_core.proofs.looks.look_if_answered.Goals as goal

pub returns : goal.returns
returns c = λ m.
    let journal = c.args.journal.now in
    let peers = c.args.peers.now in
    let d = c.args.d in
    let place = c.look_if_answered-place.result in
    let here : peer_of c.index-peers-d.result ≡ states peers d = ap peer_of (table-is peers d c.index-peers-d.result c.requires.within c.index-peers-d.is) in
    let w = c.look_if_answered-place.ensures.within in
    let g = c.get.ensures in
    let v = (c.requires.looked d).within in
    looked-placed journal (states peers) c.args.looks.now c.put.new.self d place (peer_answered journal (states peers d) m).0 c.put.ensures
    (record {
      idle = subst (λ (s : PeerState). IsIdleBefore place journal (peer_answered journal s m).0.views) here (c.look_if_answered-place.ensures.idle m);
      within = omega (arith, w, g, v);
    })
    c.requires.looked
