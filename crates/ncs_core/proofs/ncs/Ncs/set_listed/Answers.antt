use Rattle.std.proofs.Common.{◌≡◌, set, false, IsSome, sym, ap, ◌∙◌, subst, ℕ, ◌<◌, ◌≤◌, List, length}
use Rattle.mos_machines.specs.Steps.{with_peer}
use Rattle.mos_machines.specs.Tables.{PeerTables, server_state, peer_of}
use Rattle.order_table.specs.Rows.{find_row}
use Rattle.ncs_core.specs.Answers.{peer_listed}
use Rattle.ncs_core.specs.State.{NcsTables, ncs_of}
use Rattle.ncs_core.proofs.PeerRows.{set-peer, peer-here, table-here}
use Rattle.std.proofs.lemmas.List.{length-set}
use Rattle.mos_edits.specs.Texts.{set_order}
use Rattle.mos_edits.specs.Entries.{Entry, entry_count, in_force}
use Rattle.mos_machines.specs.Server.{PeerState, View, settled}
use Rattle.server_peer.specs.Parts.{AreBelow}
use Rattle.ncs_core.proofs.ScriptNumbers.{numbers-below}
use Rattle.server_peer.specs.Dues.{IsIdleBefore}
use Rattle.server_peer.proofs.LookLaws.{idle-listed}
use Rattle.ncs_core.proofs.LookedRows.{looked-kept}
use Rattle.ncs_core.proofs.ncs.Ncs.set_listed.Goals as goal

pub listed-requires-clause-there : goal.listed-requires-clause-there
listed-requires-clause-there g c =
    let t : NcsTables _ = c.args.self.now in
    let same : c.self.inside.peers.items ≡ t.server.peers = ap (λ (n : NcsTables _). n.server.peers) c.self.view_is in
    subst (λ (p : PeerTables). IsSome (find_row c.args.ro.now p.views)) (sym (table-here c.self.inside.peers.items t.server.peers c.args.d c.index_mut.result.now same c.requires.within c.index_mut.ensures.value)) c.requires.there

pub returns-clause-step : goal.returns-clause-step
returns-clause-step g c =
    let t : NcsTables _ = c.args.self.now in
    let d = c.args.d in
    let same : c.self.inside.peers.items ≡ t.server.peers = ap (λ (n : NcsTables _). n.server.peers) c.self.view_is in
    let journal : c.self.inside.journal ≡ t.server.journal = ap (λ (n : NcsTables _). n.server.journal) c.self.view_is in
    let here = peer-here c.self.inside.peers.items t.server.peers d c.index_mut.result.now same c.requires.within c.index_mut.ensures.value in
    ap (λ (n : NcsTables _). server_state (record n.server { peers = set n.server.peers d c.listed.new.self })) c.self.view_is
    ∙ (set-peer t.server d c.listed.new.self c.requires.within ∙ ap (with_peer (ncs_of t) d) (c.listed.ensures
    ∙ (ap (λ (ks : List ℕ). record (peer_of c.index_mut.result.now) { views = set_order (λ q. settled c.self.inside.journal false q ((peer_of c.index_mut.result.now).views q)) c.args.ro.now (View.Listed (entry_count c.self.inside.journal c.args.ro.now) ks) }) (c.requires.scripts ∙ ap (λ (j : List Entry). in_force j c.args.ro.now (entry_count j c.args.ro.now)) (sym journal))
    ∙ (λ i. peer_listed (journal i) c.args.ro.now (here i)))))

pub invariant_of-self : goal.invariant_of-self
invariant_of-self g c =
    let t : NcsTables _ = c.args.self.now in
    let d = c.args.d in
    let items = c.self.inside.peers.items in
    let same : items ≡ t.server.peers = ap (λ (n : NcsTables _). n.server.peers) c.self.view_is in
    let h : d < length items = subst (λ (xs : List PeerTables). d < length xs) (sym same) c.requires.within in
    let few : length (set items d c.listed.new.self) ≤ 64 = subst (λ (n : ℕ). n ≤ 64) (sym (length-set items d c.listed.new.self)) c.self.invariant.1 in
    let one : 1 ≤ length (set items d c.listed.new.self) = subst (λ (n : ℕ). 1 ≤ n) (sym (length-set items d c.listed.new.self)) c.self.invariant.2 in
    (c.self.invariant.0, few, one, c.self.invariant.3, looked-kept c.self.inside.journal items c.self.inside.looks d c.index_mut.result.now c.listed.new.self h c.index_mut.ensures.value (λ n i. subst (λ (s : PeerState). IsIdleBefore n c.self.inside.journal s.views) (sym c.listed.ensures) (idle-listed n c.self.inside.journal (peer_of c.index_mut.result.now).views c.args.ro.now _ _ i)) c.self.invariant.4, c.self.invariant.5)

pub listed-requires-clause-below : goal.listed-requires-clause-below
listed-requires-clause-below g c =
    let t : NcsTables _ = c.args.self.now in
    let journal : c.self.inside.journal ≡ t.server.journal = ap (λ (n : NcsTables _). n.server.journal) c.self.view_is in
    let r = c.args.ro.now in
    let below = numbers-below (entry_count c.self.inside.journal r) (in_force c.self.inside.journal r (entry_count c.self.inside.journal r)) (c.numbers_are_entries.ensures c.self.inside.journal r (entry_count c.self.inside.journal r)) in
    subst (AreBelow (entry_count c.self.inside.journal r)) (sym (c.requires.scripts ∙ ap (λ (j : List Entry). in_force j r (entry_count j r)) (sym journal))) below
