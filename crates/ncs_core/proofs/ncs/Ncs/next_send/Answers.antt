use Rattle.std.proofs.Common.{◌≡◌, set, true, sym, ap, ◌∙◌, ℕ, ◌<◌, ◌≤◌, List, length, subst}
use Rattle.mos_machines.specs.Messages.{is_link}
use Rattle.mos_machines.specs.Server.{PeerState, upper_link, peer_next, View}
use Rattle.mos_machines.specs.Steps.{is_upper}
use Rattle.mos_machines.specs.Tables.{server_state, peer_of, PeerTables}
use Rattle.ncs_core.specs.Looks.{AreLooked}
use Rattle.server_peer.specs.Parts.{sent_of}
use Rattle.ncs_core.specs.State.{NcsTables, ncs_of, states}
use Rattle.ncs_core.proofs.PeerRows.{set-peer, sent-step, sent-says, peer-here, on-ok}
use Rattle.std.proofs.lemmas.List.{length-set}
use Rattle.mos_edits.specs.Texts.{Text}
use Rattle.server_peer.specs.Dues.{IsIdleBefore}
use Rattle.ncs_core.proofs.AcceptedRows.{if-ok}
use Rattle.ncs_core.proofs.GivenPeers.{table-is}
use Rattle.ncs_core.proofs.LookedRows.{looked-kept, sent-views}
use Rattle.ncs_core.proofs.ncs.Ncs.next_send.Goals as goal

pub returns-clause-step : goal.returns-clause-step
returns-clause-step g c =
    let t : NcsTables _ = c.args.self.now in
    let d = c.args.d in
    let now = c.args.now.now in
    let same : c.self.inside.peers.items ≡ t.server.peers = ap (λ (n : NcsTables _). n.server.peers) c.self.view_is in
    let journal : c.self.inside.journal ≡ t.server.journal = ap (λ (n : NcsTables _). n.server.journal) c.self.view_is in
    let asked = peer-here c.self.inside.peers.items t.server.peers d c.index.result.now same c.requires c.index.ensures in
    let here = peer-here c.self.inside.peers.items t.server.peers d c.index_mut.result.now same c.requires c.index_mut.ensures.value in
    let up : is_upper (ncs_of t) d c.args.link ≡ true = ap (λ (p : PeerState). is_link (upper_link p.upper) c.args.link) (sym asked) ∙ (sym c.is_upper.ensures ∙ c.if-not-is_upper.false) in
    on-ok c.next_send_from.result c.next_send_from.ensures.step (λ e.
    ap (λ (n : NcsTables _). server_state (record n.server { peers = set n.server.peers d c.next_send_from.new.self })) c.self.view_is
    ∙ (set-peer t.server d c.next_send_from.new.self c.requires ∙ sent-step (ncs_of t) d c.args.link now (peer_of c.next_send_from.new.self) up (e ∙ (λ i. (peer_next (journal i) now (here i)).0))))

pub returns-clause-answer : goal.returns-clause-answer
returns-clause-answer g c =
    let t : NcsTables _ = c.args.self.now in
    let d = c.args.d in
    let now = c.args.now.now in
    let same : c.self.inside.peers.items ≡ t.server.peers = ap (λ (n : NcsTables _). n.server.peers) c.self.view_is in
    let journal : c.self.inside.journal ≡ t.server.journal = ap (λ (n : NcsTables _). n.server.journal) c.self.view_is in
    let asked = peer-here c.self.inside.peers.items t.server.peers d c.index.result.now same c.requires c.index.ensures in
    let here = peer-here c.self.inside.peers.items t.server.peers d c.index_mut.result.now same c.requires c.index_mut.ensures.value in
    let up : is_upper (ncs_of t) d c.args.link ≡ true = ap (λ (p : PeerState). is_link (upper_link p.upper) c.args.link) (sym asked) ∙ (sym c.is_upper.ensures ∙ c.if-not-is_upper.false) in
    if-ok c.next_send_from.result c.next_send_from.ensures.answer (λ x e. sent-says (ncs_of t) d c.args.link now x up (e ∙ (λ i. sent_of (peer_next (journal i) now (here i)).1)))

pub next_send_from-requires : goal.next_send_from-requires
next_send_from-requires g c =
    let t : NcsTables _ = c.args.self.now in
    let d = c.args.d in
    let items = c.self.inside.peers.items in
    let journal = c.self.inside.journal in
    let same : items ≡ t.server.peers = ap (λ (n : NcsTables _). n.server.peers) c.self.view_is in
    let h : d < length items = subst (λ (xs : List PeerTables). d < length xs) (sym same) c.requires in
    let here : peer_of c.index_mut.result.now ≡ states items d = ap peer_of (table-is items d c.index_mut.result.now h c.index_mut.ensures.value) in
    subst (λ (s : PeerState). IsIdleBefore c.look_on-from.result journal s.views) (sym here) (subst (λ (ps : List PeerTables). IsIdleBefore c.look_on-from.result journal (states ps d).views) c.deref.ensures.value c.look_on-from.ensures.idle)

pub invariant_of-self : goal.invariant_of-self
invariant_of-self g c =
    let t : NcsTables _ = c.args.self.now in
    let d = c.args.d in
    let items = c.self.inside.peers.items in
    let journal = c.self.inside.journal in
    let same : items ≡ t.server.peers = ap (λ (n : NcsTables _). n.server.peers) c.self.view_is in
    let h : d < length items = subst (λ (xs : List PeerTables). d < length xs) (sym same) c.requires in
    let few : length (set items d c.next_send_from.new.self) ≤ 64 = subst (λ (n : ℕ). n ≤ 64) (sym (length-set items d c.next_send_from.new.self)) c.self.invariant.1 in
    let one : 1 ≤ length (set items d c.next_send_from.new.self) = subst (λ (n : ℕ). 1 ≤ n) (sym (length-set items d c.next_send_from.new.self)) c.self.invariant.2 in
    let views = sent-views c.next_send_from.result journal c.args.now.now c.index_mut.result.now c.next_send_from.new.self c.next_send_from.ensures.step c.next_send_from.ensures.err in
    (c.self.invariant.0, few, one, c.self.invariant.3, looked-kept journal items c.look_on-from.new.looks d c.index_mut.result.now c.next_send_from.new.self h c.index_mut.ensures.value (λ n i. subst (λ (v : Text → View). IsIdleBefore n journal v) (sym views) i) (subst (λ (ps : List PeerTables). AreLooked journal (states ps) c.look_on-from.new.looks) c.deref.ensures.value c.look_on-from.ensures.looked), c.self.invariant.5)
