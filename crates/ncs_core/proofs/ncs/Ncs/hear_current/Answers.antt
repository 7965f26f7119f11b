use Rattle.std.proofs.Common.{◌≡◌, set, true, sym, ap, ◌∙◌, ℕ, ◌<◌, ◌≤◌, List, length, subst}
use Rattle.mos_machines.specs.Server.{peer_settled, peer_hear, PeerState}
use Rattle.mos_machines.specs.Steps.{with_peer}
use Rattle.mos_machines.specs.Tables.{server_state, PeerTables, peer_of}
use Rattle.mos_machines.specs.Values.{seen}
use Rattle.ncs_core.specs.Looks.{AreLooked}
use Rattle.mos_edits.specs.Texts.{set_number}
use Rattle.ncs_core.specs.State.{NcsTables, ncs_of, states}
use Rattle.ncs_core.proofs.PeerRows.{set-peer, peer-here}
use Rattle.std.proofs.lemmas.List.{length-set}
use Rattle.ncs_core.proofs.GivenPeers.{table-is}
use Rattle.ncs_core.proofs.LookedRows.{looked-set}
use Rattle.mos_values.specs.declared.message.Message as values
use Rattle.ncs_core.proofs.ncs.Ncs.hear_current.Goals as goal

pub returns-in-Heartbeat-clause-step : goal.returns-in-Heartbeat-clause-step
returns-in-Heartbeat-clause-step g c =
    let t : NcsTables _ = c.args.self.now in
    let d = c.args.d in
    let same : c.self.inside.peers.items ≡ t.server.peers = ap (λ (n : NcsTables _). n.server.peers) c.self.view_is in
    let journal : c.self.inside.journal ≡ t.server.journal = ap (λ (n : NcsTables _). n.server.journal) c.self.view_is in
    let here = peer-here c.self.inside.peers.items t.server.peers d c.index_mut.result.now same c.requires c.index_mut.ensures.value in
    ap (λ (n : NcsTables _). server_state (record n.server { peers = set n.server.peers d c.settle.new.self })) c.self.view_is
    ∙ (set-peer t.server d c.settle.new.self c.requires
    ∙ (ap (with_peer (ncs_of t) d) (c.settle.ensures.step ∙ (λ i. peer_settled (journal i) true (here i)))
    ∙ ap (λ (m : values.Message). with_peer (ncs_of t) d (peer_hear t.server.journal ((ncs_of t).peers d) (seen m)).0) (sym c.in-Heartbeat.is)))

pub invariant_of-self : goal.invariant_of-self
invariant_of-self g c =
    let t : NcsTables _ = c.args.self.now in
    let d = c.args.d in
    let items = c.self.inside.peers.items in
    let journal = c.self.inside.journal in
    let same : items ≡ t.server.peers = ap (λ (n : NcsTables _). n.server.peers) c.self.view_is in
    let h : d < length items = subst (λ (xs : List PeerTables). d < length xs) (sym same) c.requires in
    let few : length (set items d c.settle.new.self) ≤ 64 = subst (λ (n : ℕ). n ≤ 64) (sym (length-set items d c.settle.new.self)) c.self.invariant.1 in
    let one : 1 ≤ length (set items d c.settle.new.self) = subst (λ (n : ℕ). 1 ≤ n) (sym (length-set items d c.settle.new.self)) c.self.invariant.2 in
    let here : peer_of c.index_mut.result.now ≡ states items d = ap peer_of (table-is items d c.index_mut.result.now h c.index_mut.ensures.value) in
    let step : peer_of c.settle.new.self ≡ peer_settled journal true (states items d) = c.settle.ensures.step ∙ ap (λ (s : PeerState). peer_settled journal true s) here in
    (c.self.invariant.0, few, one, c.self.invariant.3, looked-set journal items c.look_if_settled.new.looks d c.settle.new.self (peer_settled journal true (states items d)) h step (subst (λ (ps : List PeerTables). AreLooked journal (set_number (states ps) d (peer_settled journal true (states ps d))) c.look_if_settled.new.looks) c.deref.ensures.value c.look_if_settled.ensures), c.self.invariant.5)
