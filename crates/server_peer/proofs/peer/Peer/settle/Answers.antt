use Rattle.std.proofs.Common.{ap, ◌∙◌, sym, subst}
use Rattle.mos_machines.specs.Server.{settled, peer_settled}
use Rattle.mos_machines.specs.Tables.{PeerTables, peer_of, map_rows}
use Rattle.mos_machines.proofs.RowTables.{peer-settled}
use Rattle.server_peer.specs.Parts.{upper_of, IsOutKnown}
use Rattle.server_peer.specs.contracts.peer.Peer.{the_view}
use Rattle.server_peer.proofs.ViewRows.{out-map}
use Rattle.server_peer.proofs.peer.Peer.settle.Goals as goal

pub invariant_of-self : goal.invariant_of-self
invariant_of-self c =
    let u = upper_of c.self.inside.upper in
    (subst (λ rows. IsOutKnown u rows) (sym c.change_all.ensures) (out-map (settled c.args.journal.now c.args.beat) u c.self.inside.views c.self.invariant.0), c.self.invariant.1)

pub returns : goal.returns
returns c =
    let p = c.self.inside in
    let journal = c.args.journal.now in
    record {
      rows = ap (λ rows. record (the_view p) { views = rows }) c.change_all.ensures ∙ ap (λ (t : PeerTables). record t { views = map_rows (settled journal c.args.beat) t.views }) c.self.view_is;
      step =
          ap (λ rows. peer_of (record { upper = upper_of p.upper; note = p.note; link = p.link; views = rows })) c.change_all.ensures
          ∙ (peer-settled journal c.args.beat (the_view p) ∙ ap (λ t. peer_settled journal c.args.beat (peer_of t)) c.self.view_is);
    }
