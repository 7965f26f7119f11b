-- What the server's events answer.
use Rattle.std.proofs.Common.{◌≡◌, ℕ, ◌+◌, List, Bool, true, false, Option, Some, None, refl, ap, ◌∙◌, subst, eq-eqb}
use Rattle.mos_edits.specs.Texts.{Text}
use Rattle.mos_edits.specs.Entries.{Entry, entry_count, order_now}
use Rattle.mos_edits.proofs.Identifiers.{same-self}
use Rattle.mos_machines.specs.Messages.{Tag, Packet, untagged}
use Rattle.mos_machines.specs.Messages.Status.{NotNow}
use Rattle.mos_machines.specs.Messages.Message.{RoAck, RoReq}
use Rattle.mos_machines.specs.Messages.Tag.{Untagged, OfEntry, OfAgain, OfScript}
use Rattle.mos_machines.specs.Server.{ServerOut, Upper, PeerState, is_busy, list_of, sent, next_by, peer_next, beat_or_due, first_due}
use Rattle.mos_machines.specs.Server.ServerOut.{Idle, SendsEdit, SendsAgain, SendsScript, SendsBeat}
use Rattle.mos_machines.specs.Server.Upper.{Down, Greeting, Open}
use Rattle.mos_machines.specs.Steps.{ServerState, server_sent, sent_answer, unless_stale, is_upper, is_lower, server_step}
use Rattle.mos_machines.specs.Steps.ServerEvent.{NextSend, Hear}
use Rattle.mos_machines.specs.Steps.StepAnswer.{Sent, Say}
use Rattle.mos_machines.specs.Views.{entry_after, entry_by, next_entry}
use Rattle.mos_machines.proofs.Least.{due_ok}
use Rattle.mos_machines.proofs.Views.{IsDue, due-next, entry-due}
use Rattle.mos_fields.specs.declared.time.MosTime.{MosTime}

-- a request of an order
pub request-heard : (fails : Bool) (s : ServerState) (d c : ℕ) (r : Text) → is_lower s d c ≡ true → is_busy r (s.peers d).upper ≡ false
    → (server_step fails s (Hear d c (RoReq r))).0 ≡ Say (list_of r (entry_count s.journal r) (order_now s.journal r))
request-heard fails s d c r l b = rw (l, b) refl

pub request-put_off : (fails : Bool) (s : ServerState) (d c : ℕ) (r : Text) → is_lower s d c ≡ true → is_busy r (s.peers d).upper ≡ true
    → (server_step fails s (Hear d c (RoReq r))).0 ≡ Say (untagged (RoAck r NotNow))
request-put_off fails s d c r l b = rw (l, b) refl

-- a sent entry
abbrev Raises : List Entry → PeerState → PeerState × Option Packet → Text → ℕ → Type 0
Raises journal s x r k = (p : Packet) → x.1 ≡ Some p → p.tag ≡ OfEntry r k → (next_entry journal s r ≡ k) × (next_entry journal x.0 r ≡ k + 1)

tag-entry : (r q : Text) (k j : ℕ) → OfEntry q j ≡ OfEntry r k → (q ≡ r) × (j ≡ k)
tag-entry r q k j h = (cc, cc)

sent-raises : (journal : List Entry) (now : MosTime) (s : PeerState) (c : ℕ) (o : ServerOut) (r : Text) (k : ℕ) → s.upper ≡ Open c Idle → IsDue journal s.views o → Raises journal s (sent journal now s c o) r k
sent-raises journal now s c Idle r k e d p h t = absurd (cc)
sent-raises journal now s c SendsBeat r k e d p h t = absurd (let i : Untagged ≡ OfEntry r k = ap (λ (x : Option Packet). tag_in x) h ∙ t in cc)
  where
    tag_in : Option Packet → Tag
    tag_in None = Untagged
    tag_in (Some x) = x.tag
sent-raises journal now s c (SendsAgain q m) r k e d p h t = absurd (let i : OfAgain q m ≡ OfEntry r k = ap (λ (x : Option Packet). tag_in x) h ∙ t in cc)
  where
    tag_in : Option Packet → Tag
    tag_in None = Untagged
    tag_in (Some x) = x.tag
sent-raises journal now s c (SendsScript q j m) r k e d p h t = absurd (let i : OfScript q j m ≡ OfEntry r k = ap (λ (x : Option Packet). tag_in x) h ∙ t in cc)
  where
    tag_in : Option Packet → Tag
    tag_in None = Untagged
    tag_in (Some x) = x.tag
sent-raises journal now s c (SendsEdit q j) r k e d p h t =
    let i : OfEntry q j ≡ OfEntry r k = ap (λ (x : Option Packet). tag_in x) h ∙ t in
    let n = tag-entry r q k j i in
    let v = entry-due (entry_count journal q) j (s.views q) d.1 in
    let here : (entry_by (entry_count journal q) (s.views q) ≡ j) × (entry_after q (Open c (SendsEdit q j)) (entry_by (entry_count journal q) (s.views q)) ≡ j + 1) = (v, rw (same-self q) refl) in
    rw e (subst (λ (z : Text). (entry_by (entry_count journal z) (s.views z) ≡ k) × (entry_after z (Open c (SendsEdit q j)) (entry_by (entry_count journal z) (s.views z)) ≡ k + 1)) n.0 (subst (λ (m : ℕ). (entry_by (entry_count journal q) (s.views q) ≡ m) × (entry_after q (Open c (SendsEdit q j)) (entry_by (entry_count journal q) (s.views q)) ≡ m + 1)) n.1 here))
  where
    tag_in : Option Packet → Tag
    tag_in None = Untagged
    tag_in (Some x) = x.tag

next-raises : (journal : List Entry) (now : MosTime) (s : PeerState) (u : Upper) (r : Text) (k : ℕ) → s.upper ≡ u → Raises journal s (next_by journal now s u) r k
next-raises journal now s Down r k e p h t = absurd (cc)
next-raises journal now s (Greeting c) r k e p h t = absurd (cc)
next-raises journal now s (Open c Idle) r k e p h t =
    sent-raises journal now s c (beat_or_due s.note (first_due s.views (λ r. 0) journal)) r k e (due-next journal s.views s.note (first_due s.views (λ r. 0) journal) (due_ok s.views (λ r. 0) journal)) p h t
next-raises journal now s (Open c SendsBeat) r k e p h t = absurd (cc)
next-raises journal now s (Open c (SendsEdit q j)) r k e p h t = absurd (cc)
next-raises journal now s (Open c (SendsAgain q m)) r k e p h t = absurd (cc)
next-raises journal now s (Open c (SendsScript q j m)) r k e p h t = absurd (cc)

-- the same of the server
pub entry-sent : (fails : Bool) (s : ServerState) (d c : ℕ) (now : MosTime) (p : Packet) (r : Text) (k : ℕ) → (server_step fails s (NextSend d c now)).0 ≡ Sent p → p.tag ≡ OfEntry r k
    → (next_entry s.journal (s.peers d) r ≡ k) × (next_entry s.journal ((server_step fails s (NextSend d c now)).1.peers d) r ≡ k + 1)
entry-sent fails s d c now p r k h t = go (is_upper s d c) (peer_next s.journal now (s.peers d)) refl h
  where
    answer : (o : Option Packet) → sent_answer o ≡ Sent p → o ≡ Some p
    answer None h = absurd (cc)
    answer (Some q) h = ap (λ (x : Packet). Some x) (cc)

    go : (b : Bool) (x : PeerState × Option Packet) → peer_next s.journal now (s.peers d) ≡ x → (unless_stale b s (server_sent s d x)).0 ≡ Sent p
        → (next_entry s.journal (s.peers d) r ≡ k) × (next_entry s.journal ((unless_stale b s (server_sent s d x)).1.peers d) r ≡ k + 1)
    go false x e h = absurd (cc)
    go true x e h =
        let n = next-raises s.journal now (s.peers d) (s.peers d).upper r k refl in
        let m : Raises s.journal (s.peers d) x r k = subst (λ (y : PeerState × Option Packet). Raises s.journal (s.peers d) y r k) e n in
        let i = m p (answer x.1 h) t in
        (i.0, rw (eq-eqb d d refl) i.1)
