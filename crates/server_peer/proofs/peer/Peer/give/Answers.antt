use Rattle.std.proofs.Common.{ap, ◌∙◌, sym, subst, true}
use Rattle.mos_edits.specs.Texts.{set_order}
use Rattle.mos_machines.specs.Server.{view_given}
use Rattle.mos_machines.specs.Server.View.{Out}
use Rattle.mos_machines.specs.Tables.{PeerTables, look, peer_of}
use Rattle.mos_machines.proofs.RowTables.{peer-put}
use Rattle.server_peer.specs.Parts.{upper_of, IsOutKnown}
use Rattle.server_peer.specs.contracts.peer.Peer.{the_view}
use Rattle.server_peer.proofs.ViewRows.{out-written}
use Rattle.server_peer.proofs.peer.Peer.give.Goals as goal

pub invariant_of-self : goal.invariant_of-self
invariant_of-self c =
    let u = upper_of c.self.inside.upper in
    let v = view_given true c.args.n (look Out c.self.inside.views c.args.ro.now) in
    (subst (λ rows. IsOutKnown u rows) (sym c.step.ensures) (out-written c.args.ro.now v u c.self.inside.views c.self.invariant.0), c.self.invariant.1)

pub returns : goal.returns
returns c =
    let p = c.self.inside in
    let ro = c.args.ro.now in
    let v = view_given true c.args.n (look Out c.self.inside.views ro) in
    ap (λ rows. peer_of (record { upper = upper_of p.upper; note = p.note; link = p.link; views = rows })) c.step.ensures
    ∙ (peer-put (the_view p) ro v
    ∙ ap (λ (t : PeerTables). record (peer_of t) { views = set_order (peer_of t).views ro (view_given true c.args.n ((peer_of t).views ro)) }) c.self.view_is)
