use Rattle.std.proofs.Common.{None, ap, ◌∙◌, subst}
use Rattle.mos_machines.specs.Tables.{PeerTables, peer_of, map_rows}
use Rattle.server_peer.specs.Dues.{first_from, only_listed, StandsFrom}
use Rattle.server_peer.proofs.LookLaws.{idle-settled, idle-less}
use Rattle.server_peer.proofs.peer.Peer.look_if_settled.Goals as goal

pub returns-clause-idle : goal.returns-clause-idle
returns-clause-idle c =
    let journal = c.args.journal.now in
    let p = c.args.self.now in
    let n = c.place_until.result in
    let rows = c.rows.ensures ∙ ap (λ (t : PeerTables). t.views) c.self.view_is in
    let e = c.first_listed.ensures ∙ ap (λ rows. first_from journal None (map_rows (only_listed journal) rows)) rows in
    idle-settled n journal p.views (subst (λ o. StandsFrom n o) e c.place_until.ensures.stands) (idle-less n c.args.from journal (peer_of p).views c.place_until.ensures.within c.requires)
