-- One device's tables written anew.
use Rattle.std.proofs.Common.{◌≡◌, ℕ, zero, suc, ◌<◌, Bool, true, false, List, [], ◌∷◌, length, get_or, set, Option, Some, None, Result, Ok, Err, OnOk, IfOk, refl, sym, ap, ◌∙◌, if◌then◌else◌, ◌==◌, arith}
use Rattle.std.proofs.lemmas.Bool.Decides.{nat_tests}
use Rattle.std.proofs.lemmas.List.{get_or-set_same, get_or-set_other}
use Rattle.mos_edits.specs.Texts.{set_number}
use Rattle.mos_fields.specs.declared.time.MosTime.{MosTime}
use Rattle.mos_machines.specs.Messages.{Message, Packet, Step}
use Rattle.mos_machines.specs.Server.{PeerState, peer_next, peer_answered}
use Rattle.mos_machines.specs.Steps.{ServerState, with_peer, is_upper, unless_stale, server_sent, server_stepped, server_step}
use Rattle.mos_machines.specs.Steps.ServerEvent.{NextSend, UpperAnswer}
use Rattle.machine_answers.specs.declared.answers.Sent.{Sent}
use Rattle.server_peer.specs.Parts.{sent_of}
use Rattle.ncs_core.specs.State.{sent_by}
use Rattle.mos_machines.specs.Tables.{PeerTables, ServerTables, no_peer_tables, peer_of, server_state}

equal-by : (a b : ℕ) → (a == b) ≡ true → a ≡ b
equal-by a b e = grind (arith, nat_tests)

other-by : (a b : ℕ) → (a == b) ≡ false → a ≡ b → ⊥
other-by a b e f = grind (arith, nat_tests)

pub peer-at : (peers : List PeerTables) (d : ℕ) (x : PeerTables) → d < length peers → (e : ℕ) → peer_of (get_or (set peers d x) e no_peer_tables) ≡ set_number (λ e. peer_of (get_or peers e no_peer_tables)) d (peer_of x) e
peer-at peers d x h e = by (e == d) refl
  where
    by : (c : Bool) → (e == d) ≡ c → peer_of (get_or (set peers d x) e no_peer_tables) ≡ (if c then peer_of x else peer_of (get_or peers e no_peer_tables))
    by true s = ap (λ (i : ℕ). peer_of (get_or (set peers d x) i no_peer_tables)) (equal-by e d s) ∙ ap peer_of (get_or-set_same peers d x no_peer_tables h)
    by false s = ap peer_of (get_or-set_other peers d e x no_peer_tables (other-by e d s))

-- a device's tables written anew are its state written anew
pub set-peer : (t : ServerTables) (d : ℕ) (x : PeerTables) → d < length t.peers → server_state (record t { peers = set t.peers d x }) ≡ with_peer (server_state t) d (peer_of x)
set-peer t d x h = λ i. record { journal = t.journal; stopped = t.stopped; faults = t.faults; peers = λ e. peer-at t.peers d x h e i }

-- a device's state after a call on its current connection is that after the server's step
pub sent-step : (s : ServerState) (d c : ℕ) (now : MosTime) (x : PeerState) → is_upper s d c ≡ true → x ≡ (peer_next s.journal now (s.peers d)).0 → with_peer s d x ≡ (server_step false s (NextSend d c now)).1
sent-step s d c now x u e = ap (with_peer s d) e ∙ by (is_upper s d c) u (peer_next s.journal now (s.peers d))
  where
    by : (b : Bool) → b ≡ true → (p : PeerState × Option Packet) → with_peer s d p.0 ≡ (unless_stale b s (server_sent s d p)).1
    by true h (y, q) = refl
    by false h p = absurd (cc)

-- and what it sends is what the step sends
pub sent-says : (s : ServerState) (d c : ℕ) (now : MosTime) (x : Sent) → is_upper s d c ≡ true → x ≡ sent_of (peer_next s.journal now (s.peers d)).1 → x ≡ sent_by (server_step false s (NextSend d c now)).0
sent-says s d c now x u e = e ∙ by (is_upper s d c) u (peer_next s.journal now (s.peers d))
  where
    by : (b : Bool) → b ≡ true → (p : PeerState × Option Packet) → sent_of p.1 ≡ sent_by (unless_stale b s (server_sent s d p)).0
    by true h (y, None) = refl
    by true h (y, Some q) = refl
    by false h p = absurd (cc)

pub answered-step : (s : ServerState) (d c : ℕ) (m : Message) (x : PeerState) → is_upper s d c ≡ true → x ≡ (peer_answered s.journal (s.peers d) m).0 → with_peer s d x ≡ (server_step false s (UpperAnswer d c m)).1
answered-step s d c m x u e = ap (with_peer s d) e ∙ by (is_upper s d c) u (peer_answered s.journal (s.peers d) m)
  where
    by : (b : Bool) → b ≡ true → (p : PeerState × Step) → with_peer s d p.0 ≡ (unless_stale b s (server_stepped s d p)).1
    by true h (y, q) = refl
    by false h p = absurd (cc)

pub on-ok : {X Y : Type 0} {A B : Type 0} (r : Result X Y) → OnOk r A → (A → B) → OnOk r B
on-ok (Ok x) a f = f a
on-ok (Err y) a f = a

-- the device at a place, whatever stands for one that isn't there
pub any-default : {X : Type 0} (xs : List X) (d : ℕ) (a b : X) → d < length xs → get_or xs d a ≡ get_or xs d b
any-default [] d a b h = absurd (omega (arith, h))
any-default (x ∷ xs) zero a b h = refl
any-default (x ∷ xs) (suc d) a b h = any-default xs d a b (omega (arith, h))

pub peer-here : (items peers : List PeerTables) (d : ℕ) (x : PeerTables) → items ≡ peers → d < length peers → x ≡ get_or items d x → peer_of x ≡ peer_of (get_or peers d no_peer_tables)
peer-here items peers d x s h e = ap peer_of (e ∙ (ap (λ (xs : List PeerTables). get_or xs d x) s ∙ any-default peers d x no_peer_tables h))

pub table-here : (items peers : List PeerTables) (d : ℕ) (x : PeerTables) → items ≡ peers → d < length peers → x ≡ get_or items d x → x ≡ get_or peers d no_peer_tables
table-here items peers d x s h e = e ∙ (ap (λ (xs : List PeerTables). get_or xs d x) s ∙ any-default peers d x no_peer_tables h)

-- a device's state written as it is changes nothing
same-at : (f : ℕ → PeerState) (d e : ℕ) → set_number f d (f d) e ≡ f e
same-at f d e = by (e == d) refl
  where
    by : (c : Bool) → (e == d) ≡ c → (if c then f d else f e) ≡ f e
    by true s = ap f (sym (equal-by e d s))
    by false s = refl

pub with-same : (s : ServerState) (d : ℕ) (x : PeerState) → x ≡ s.peers d → with_peer s d x ≡ s
with-same s d x e = ap (with_peer s d) e ∙ (λ i. record { journal = s.journal; stopped = s.stopped; faults = s.faults; peers = λ n. same-at s.peers d n i })

pub if-ok-is : {X Y : Type 0} (r : Result X Y) (x y : X) → x ≡ y → IfOk r (λ a. a ≡ x) → IfOk r (λ a. a ≡ y)
if-ok-is (Ok a) x y e h = h ∙ e
if-ok-is (Err f) x y e h = h
