use Rattle.std.proofs.Common.{◌≡◌, ◌<◌, length, set, IsSome, sym, ap, ◌∙◌, subst}
use Rattle.std.proofs.lemmas.List.{get_or-set_same}
use Rattle.mos_machines.specs.Tables.{PeerTables, no_peer_tables, server_state, peer_of}
use Rattle.order_table.specs.Rows.{find_row}
use Rattle.ncs_core.specs.State.{NcsTables, ncs_of}
use Rattle.ncs_core.proofs.PeerRows.{set-peer, peer-here, with-same, on-ok}
use Rattle.ncs_core.proofs.ncs.Ncs.reserve_view.Goals as goal

pub returns-clause-there : goal.returns-clause-there
returns-clause-there g c =
    let within : c.args.d < length c.self.inside.peers.items = subst (λ (n : NcsTables _). c.args.d < length n.server.peers) (sym c.self.view_is) c.requires in
    on-ok c.reserve.result c.reserve.ensures.there (λ h. subst (λ (p : PeerTables). IsSome (find_row c.args.ro.now p.views)) (sym (get_or-set_same c.self.inside.peers.items c.args.d c.reserve.new.self no_peer_tables within)) h)

pub returns-clause-same : goal.returns-clause-same
returns-clause-same g c =
    let t : NcsTables _ = c.args.self.now in
    let d = c.args.d in
    let same : c.self.inside.peers.items ≡ t.server.peers = ap (λ (n : NcsTables _). n.server.peers) c.self.view_is in
    let here = peer-here c.self.inside.peers.items t.server.peers d c.index_mut.result.now same c.requires c.index_mut.ensures.value in
    ap (λ (n : NcsTables _). server_state (record n.server { peers = set n.server.peers d c.reserve.new.self })) c.self.view_is
    ∙ (set-peer t.server d c.reserve.new.self c.requires ∙ with-same (ncs_of t) d (peer_of c.reserve.new.self) (c.reserve.ensures.same ∙ here))
