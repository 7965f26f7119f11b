use Rattle.std.proofs.Common.{ap, ◌∙◌, sym, subst, IsSome, false}
use Rattle.mos_edits.specs.Texts.{set_order}
use Rattle.mos_machines.specs.Server.{View, settled}
use Rattle.mos_machines.specs.Tables.{PeerTables, peer_of}
use Rattle.mos_machines.proofs.RowTables.{peer-put}
use Rattle.order_table.specs.Rows.{find_row}
use Rattle.order_table.proofs.Looked.{find-map}
use Rattle.server_peer.specs.Parts.{upper_of, AreBelow, IsOutKnown}
use Rattle.server_peer.specs.contracts.peer.Peer.{the_view}
use Rattle.server_peer.proofs.ViewRows.{out-written}
use Rattle.server_peer.proofs.peer.Peer.listed.Goals as goal

pub set_listed-requires-clause-there : goal.set_listed-requires-clause-there
set_listed-requires-clause-there c =
    let ro = c.args.ro.now in
    subst (λ (t : PeerTables). IsSome (find_row ro t.views)) (sym (c.self.view_is ∙ c.settle.ensures.rows)) (find-map (settled c.args.journal.now false) ro c.args.self.now.views c.requires.there)

pub invariant_of-self : goal.invariant_of-self
invariant_of-self c =
    let u = upper_of c.self.inside.upper in
    (subst (λ rows. IsOutKnown u rows) (sym c.set_listed.ensures) (out-written c.args.ro.now (View.Listed c.entry_count.result c.args.scripts.items) u c.self.inside.views c.self.invariant.0), c.self.invariant.1)

pub returns : goal.returns
returns c =
    let p = c.self.inside in
    let ro = c.args.ro.now in
    let v = ap (λ n. View.Listed n c.args.scripts.items) c.entry_count.ensures in
    ap (λ rows. peer_of (record { upper = upper_of p.upper; note = p.note; link = p.link; views = rows })) c.set_listed.ensures
    ∙ (peer-put (the_view p) ro (View.Listed c.entry_count.result c.args.scripts.items)
    ∙ (λ i. record ((ap peer_of c.self.view_is ∙ c.settle.ensures.step) i) { views = set_order ((ap peer_of c.self.view_is ∙ c.settle.ensures.step) i).views ro (v i) }))

pub set_listed-requires-clause-below : goal.set_listed-requires-clause-below
set_listed-requires-clause-below c = subst (λ n. AreBelow n c.args.scripts.items) (sym c.entry_count.ensures) c.requires.below
