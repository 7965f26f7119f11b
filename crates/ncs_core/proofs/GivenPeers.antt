-- Devices that are made room at, or given an accepted edit, one after the other.
use Rattle.std.proofs.Common.{◌≡◌, ℕ, zero, suc, ◌+◌, ◌<◌, ◌≤◌, Bool, true, false, List, [], ◌∷◌, ◌++◌, length, get_or, set, inl, inr, refl, sym, ap, ◌∙◌, subst, if◌then◌else◌, arith}
use Rattle.std.proofs.lemmas.Bool.{cases_lt, cases_eq}
use Rattle.std.proofs.lemmas.List.{get_or-set_same, get_or-set_other}
use Rattle.mos_edits.specs.Texts.{Text, same_id}
use Rattle.mos_machines.specs.Server.{PeerState, no_peer}
use Rattle.mos_machines.specs.Server.View.{Out}
use Rattle.mos_machines.specs.Steps.{started}
use Rattle.mos_machines.specs.Tables.{PeerTables, ServerTables, no_peer_tables, peer_of, server_state}
use Rattle.server_peer.specs.Parts.{IsRoomFor}
use Rattle.ncs_core.specs.State.{states, given_by, AreNew}
use Rattle.ncs_core.proofs.PeerRows.{any-default}

-- the table that a call on device `d` began with
pub table-is : (peers : List PeerTables) (d : ℕ) (x : PeerTables) → d < length peers → x ≡ get_or peers d x → x ≡ get_or peers d no_peer_tables
table-is peers d x h e = e ∙ any-default peers d x no_peer_tables h

-- ---- room

pub record IsReserved (whole : Bool) (r : Text) (first peers : List PeerTables) (n : ℕ) : Type 0 where
  pub room : (e : ℕ) → e < n → IsRoomFor whole r (get_or peers e no_peer_tables)
  pub same : (e : ℕ) → states peers e ≡ states first e

pub none-reserved : (whole : Bool) (r : Text) (peers : List PeerTables) → IsReserved whole r peers peers 0
none-reserved whole r peers = record { room = λ e h. absurd (omega (arith, h)); same = λ e. refl }

-- a device's table written anew, with the same state
pub same-set : (first peers : List PeerTables) (d : ℕ) (x y : PeerTables) → d < length peers → x ≡ get_or peers d x → peer_of y ≡ peer_of x → ((e : ℕ) → states peers e ≡ states first e) → (e : ℕ) → states (set peers d y) e ≡ states first e
same-set first peers d x y h x_is p s e = elim (cases_eq e d) [
  | inl i ↦ ap (λ (k : ℕ). states (set peers d y) k) i ∙ (ap peer_of (get_or-set_same peers d y no_peer_tables h) ∙ (p ∙ (ap peer_of (table-is peers d x h x_is) ∙ (s d ∙ ap (states first) (sym i)))))
  | inr i ↦ ap peer_of (get_or-set_other peers d e y no_peer_tables i) ∙ s e
]

pub one-reserved : (whole : Bool) (r : Text) (first peers : List PeerTables) (d : ℕ) (x y : PeerTables) → d < length peers → x ≡ get_or peers d x → peer_of y ≡ peer_of x → IsRoomFor whole r y → IsReserved whole r first peers d → IsReserved whole r first (set peers d y) (d + 1)
one-reserved whole r first peers d x y h x_is p q i = record { room = room; same = same-set first peers d x y h x_is p i.same }
  where
    room : (e : ℕ) → e < d + 1 → IsRoomFor whole r (get_or (set peers d y) e no_peer_tables)
    room e l = elim (cases_eq e d) [
      | inl j ↦ subst (λ (t : PeerTables). IsRoomFor whole r t) (sym (ap (λ (k : ℕ). get_or (set peers d y) k no_peer_tables) j ∙ get_or-set_same peers d y no_peer_tables h)) q
      | inr j ↦ subst (λ (t : PeerTables). IsRoomFor whole r t) (sym (get_or-set_other peers d e y no_peer_tables j)) (i.room e (omega (arith, l, j)))
    ]

-- ---- an accepted edit

pub record IsGiven (f : PeerState → PeerState) (first peers : List PeerTables) (n : ℕ) : Type 0 where
  pub given : (e : ℕ) → e < n → states peers e ≡ f (states first e)
  pub left : (e : ℕ) → n ≤ e → get_or peers e no_peer_tables ≡ get_or first e no_peer_tables

pub none-given : (f : PeerState → PeerState) (peers : List PeerTables) → IsGiven f peers peers 0
none-given f peers = record { given = λ e h. absurd (omega (arith, h)); left = λ e h. refl }

pub one-given : (f : PeerState → PeerState) (first peers : List PeerTables) (d : ℕ) (x y : PeerTables) → d < length peers → x ≡ get_or peers d x → peer_of y ≡ f (peer_of x) → IsGiven f first peers d → IsGiven f first (set peers d y) (d + 1)
one-given f first peers d x y h x_is p i = record { given = given; left = left }
  where
    begun : peer_of x ≡ states first d
    begun = ap peer_of (table-is peers d x h x_is ∙ i.left d (omega arith))

    given : (e : ℕ) → e < d + 1 → states (set peers d y) e ≡ f (states first e)
    given e l = elim (cases_eq e d) [
      | inl j ↦ ap (λ (k : ℕ). states (set peers d y) k) j ∙ (ap peer_of (get_or-set_same peers d y no_peer_tables h) ∙ (p ∙ (ap f begun ∙ ap (λ (k : ℕ). f (states first k)) (sym j))))
      | inr j ↦ ap peer_of (get_or-set_other peers d e y no_peer_tables j) ∙ i.given e (omega (arith, l, j))
    ]

    left : (e : ℕ) → d + 1 ≤ e → get_or (set peers d y) e no_peer_tables ≡ get_or first e no_peer_tables
    left e l = get_or-set_other peers d e y no_peer_tables (λ (j : e ≡ d). omega (arith, l, j)) ∙ i.left e (omega (arith, l))

-- room at a device that isn't given it yet
pub room-left : (f : PeerState → PeerState) (whole : Bool) (r : Text) (first peers : List PeerTables) (d : ℕ) (x : PeerTables) → d < length peers → length peers ≡ length first → x ≡ get_or peers d x → IsGiven f first peers d
    → ((e : ℕ) → e < length first → IsRoomFor whole r (get_or first e no_peer_tables)) → IsRoomFor whole r x
room-left f whole r first peers d x h l x_is i room = subst (λ (t : PeerTables). IsRoomFor whole r t) (sym (table-is peers d x h x_is ∙ i.left d (omega arith))) (room d (omega (arith, h, l)))

beyond : (peers : List PeerTables) (e : ℕ) → length peers ≤ e → get_or peers e no_peer_tables ≡ no_peer_tables
beyond [] e h = refl
beyond (x ∷ xs) zero h = absurd (omega (arith, h))
beyond (x ∷ xs) (suc e) h = beyond xs e (omega (arith, h))

-- one that was never connected is given nothing
not-given : (r : Text) (whole : Bool) (n : ℕ) → given_by r whole n (peer_of no_peer_tables) ≡ peer_of no_peer_tables
not-given r whole n = λ i. record (peer_of no_peer_tables) { views = λ q. by (same_id q r) i }
  where
    by : (b : Bool) → (if b then Out else Out) ≡ Out
    by true = refl
    by false = refl

pub all-given : (r : Text) (whole : Bool) (k : ℕ) (first peers : List PeerTables) (n : ℕ) → length first ≤ n → IsGiven (given_by r whole k) first peers n → states peers ≡ (λ d. given_by r whole k (states first d))
all-given r whole k first peers n h i = λ j. λ e. at e j
  where
    at : (e : ℕ) → states peers e ≡ given_by r whole k (states first e)
    at e = elim (cases_lt e n) [
      | inl l ↦ i.given e l
      | inr l ↦
          let none : get_or first e no_peer_tables ≡ no_peer_tables = beyond first e (omega (arith, h, l)) in
          ap peer_of (i.left e l) ∙ (ap peer_of none ∙ (sym (not-given r whole k) ∙ ap (λ (t : PeerTables). given_by r whole k (peer_of t)) (sym none)))
    ]

-- ---- devices without connections

pub new-more : (ps : List PeerTables) (p : PeerTables) → AreNew ps → peer_of p ≡ no_peer → AreNew (ps ++ p ∷ [])
new-more [] p h e = (e, tt)
new-more (x ∷ xs) p h e = (h.0, new-more xs p h.1 e)

new-states : (ps : List PeerTables) → AreNew ps → (d : ℕ) → states ps d ≡ no_peer
new-states [] h d = refl
new-states (x ∷ xs) h zero = h.0
new-states (x ∷ xs) h (suc d) = new-states xs h.1 d

pub new-state : (s : ServerTables) → AreNew s.peers → s.stopped ≡ false → server_state s ≡ started s.journal s.faults
new-state s h e = λ i. record { journal = s.journal; stopped = e i; faults = s.faults; peers = λ d. new-states s.peers h d i }
