use Rattle.std.proofs.Common.{sym, ap, ◌∙◌}
use Rattle.mos_machines.specs.Server.View.{Out}
use Rattle.mos_machines.specs.Tables.{PeerTables, look}
use Rattle.server_peer.specs.Parts.{shown_view}
use Rattle.server_peer.proofs.ViewRows.{look-some, look-none}
use Rattle.server_peer.proofs.peer.Peer.view.Goals as goal

pub returns-in-Some : goal.returns-in-Some
returns-in-Some c =
    let ro = c.args.ro.now in
    c.shown.ensures
    ∙ (ap shown_view (sym (look-some ro c.self.inside.views c.in-Some.seen.now (sym c.in-Some.ensures)))
    ∙ ap (λ (t : PeerTables). shown_view (look Out t.views ro)) c.self.view_is)

pub returns-in-None : goal.returns-in-None
returns-in-None c =
    let ro = c.args.ro.now in
    ap shown_view (sym (look-none ro c.self.inside.views (sym c.in-None.ensures)))
    ∙ ap (λ (t : PeerTables). shown_view (look Out t.views ro)) c.self.view_is
