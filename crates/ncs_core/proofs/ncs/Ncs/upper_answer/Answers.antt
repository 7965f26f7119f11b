use Rattle.std.proofs.Common.{◌≡◌, set, true, sym, ap, ◌∙◌, ℕ, ◌<◌, ◌≤◌, List, length, subst}
use Rattle.mos_machines.specs.Messages.{is_link}
use Rattle.mos_machines.specs.Server.{PeerState, upper_link, peer_answered}
use Rattle.mos_machines.specs.Steps.{is_upper}
use Rattle.mos_machines.specs.Tables.{server_state, peer_of, PeerTables}
use Rattle.mos_machines.specs.Values.{seen}
use Rattle.ncs_core.specs.Looks.{AreLooked}
use Rattle.ncs_core.specs.State.{NcsTables, ncs_of, states}
use Rattle.ncs_core.proofs.PeerRows.{set-peer, answered-step, peer-here}
use Rattle.std.proofs.lemmas.List.{length-set}
use Rattle.mos_edits.specs.Texts.{set_number}
use Rattle.ncs_core.proofs.GivenPeers.{table-is}
use Rattle.ncs_core.proofs.LookedRows.{looked-set}
use Rattle.ncs_core.proofs.ncs.Ncs.upper_answer.Goals as goal

pub returns-clause-step : goal.returns-clause-step
returns-clause-step g c =
    let t : NcsTables _ = c.args.self.now in
    let d = c.args.d in
    let m = seen c.args.m.now in
    let same : c.self.inside.peers.items ≡ t.server.peers = ap (λ (n : NcsTables _). n.server.peers) c.self.view_is in
    let journal : c.self.inside.journal ≡ t.server.journal = ap (λ (n : NcsTables _). n.server.journal) c.self.view_is in
    let asked = peer-here c.self.inside.peers.items t.server.peers d c.index.result.now same c.requires c.index.ensures in
    let here = peer-here c.self.inside.peers.items t.server.peers d c.index_mut.result.now same c.requires c.index_mut.ensures.value in
    let up : is_upper (ncs_of t) d c.args.link ≡ true = ap (λ (p : PeerState). is_link (upper_link p.upper) c.args.link) (sym asked) ∙ (sym c.is_upper.ensures ∙ c.if-not-is_upper.false) in
    ap (λ (n : NcsTables _). server_state (record n.server { peers = set n.server.peers d c.answered.new.self })) c.self.view_is
    ∙ (set-peer t.server d c.answered.new.self c.requires ∙ answered-step (ncs_of t) d c.args.link m (peer_of c.answered.new.self) up (c.answered.ensures.step ∙ (λ i. (peer_answered (journal i) (here i) m).0)))

pub invariant_of-self : goal.invariant_of-self
invariant_of-self g c =
    let t : NcsTables _ = c.args.self.now in
    let d = c.args.d in
    let items = c.self.inside.peers.items in
    let journal = c.self.inside.journal in
    let same : items ≡ t.server.peers = ap (λ (n : NcsTables _). n.server.peers) c.self.view_is in
    let h : d < length items = subst (λ (xs : List PeerTables). d < length xs) (sym same) c.requires in
    let few : length (set items d c.answered.new.self) ≤ 64 = subst (λ (n : ℕ). n ≤ 64) (sym (length-set items d c.answered.new.self)) c.self.invariant.1 in
    let one : 1 ≤ length (set items d c.answered.new.self) = subst (λ (n : ℕ). 1 ≤ n) (sym (length-set items d c.answered.new.self)) c.self.invariant.2 in
    let m = seen c.args.m.now in
    let here : peer_of c.index_mut.result.now ≡ states items d = ap peer_of (table-is items d c.index_mut.result.now h c.index_mut.ensures.value) in
    let step : peer_of c.answered.new.self ≡ (peer_answered journal (states items d) m).0 = c.answered.ensures.step ∙ ap (λ (s : PeerState). (peer_answered journal s m).0) here in
    (c.self.invariant.0, few, one, c.self.invariant.3, looked-set journal items c.look_if_answered.new.looks d c.answered.new.self (peer_answered journal (states items d) m).0 h step (subst (λ (ps : List PeerTables). AreLooked journal (set_number (states ps) d (peer_answered journal (states ps d) m).0) c.look_if_answered.new.looks) c.deref.ensures.value (c.look_if_answered.ensures m)), c.self.invariant.5)
