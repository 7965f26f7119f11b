use Rattle.std.proofs.Common.{ap, ◌∙◌, sym, subst}
use Rattle.mos_machines.specs.Server.{unlisted, peer_linked}
use Rattle.mos_machines.specs.Tables.{peer_of}
use Rattle.mos_machines.proofs.RowTables.{peer-linked}
use Rattle.server_peer.specs.Parts.{upper_of, IsOutKnown}
use Rattle.server_peer.specs.contracts.peer.Peer.{the_view}
use Rattle.server_peer.proofs.ViewRows.{out-map}
use Rattle.server_peer.proofs.peer.Peer.linked.Goals as goal

pub invariant_of-self : goal.invariant_of-self
invariant_of-self c =
    let u = upper_of c.self.inside.upper in
    (subst (λ rows. IsOutKnown u rows) (sym c.change_all.ensures) (out-map (λ r. unlisted) u c.self.inside.views c.self.invariant.0), c.self.invariant.1)

pub returns : goal.returns
returns c =
    let p = c.self.inside in
    ap (λ rows. peer_of (record { upper = upper_of p.upper; note = p.note; link = c.args.link; views = rows })) c.change_all.ensures
    ∙ (peer-linked c.args.link (the_view p) ∙ ap (λ t. peer_linked c.args.link (peer_of t)) c.self.view_is)
