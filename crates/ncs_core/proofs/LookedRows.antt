-- How far nothing is due to each device, through the steps of one device and through a command.
use Rattle.std.proofs.Common.{◌≡◌, ℕ, zero, suc, ◌<◌, ◌≤◌, Bool, true, false, List, [], ◌∷◌, ◌++◌, length, get_or, set, inl, inr, refl, sym, ap, ◌∙◌, subst, if◌then◌else◌, ◌==◌, ◌&&◌, Result, Ok, Err, OnOk, OnErr, replicate, arith}
use Rattle.std.proofs.lemmas.Bool.{cases_eq}
use Rattle.std.proofs.lemmas.List.{get_or-set_same, get_or-set_other}
use Rattle.mos_edits.specs.Texts.{set_number, set_order}
use Rattle.mos_edits.specs.Entries.{Entry, entry_count, kind}
use Rattle.mos_fields.specs.declared.time.MosTime.{MosTime}
use Rattle.mos_machines.specs.Server.{PeerState, is_open, is_whole, peer_given, peer_next, view_given}
use Rattle.mos_machines.specs.Tables.{PeerTables, no_peer_tables, peer_of}
use Rattle.server_peer.specs.Dues.{IsIdleBefore}
use Rattle.server_peer.proofs.LookLaws.{idle-given, idle-pushed, next-views}
use Rattle.ncs_core.specs.Looks.{IsLooked, AreLooked}
use Rattle.ncs_core.specs.State.{states}
use Rattle.ncs_core.proofs.GivenPeers.{table-is}
use Rattle.ncs_core.proofs.PeerRows.{peer-at}

-- another place and another state of one device
pub looked-placed : (journal : List Entry) (s : ℕ → PeerState) (old new : List ℕ) (d place : ℕ) (x : PeerState) → ((e : ℕ) → get_or new e 0 ≡ set_number (λ e. get_or old e 0) d place e) → IsLooked place journal x → AreLooked journal s old → AreLooked journal (set_number s d x) new
looked-placed journal s old new d place x h l a e = subst (λ (n : ℕ). IsLooked n journal (set_number s d x e)) (sym (h e)) (by (e == d))
  where
    by : (b : Bool) → IsLooked (if b then place else get_or old e 0) journal (if b then x else s e)
    by true = l
    by false = a e

-- the tables of one device written anew
pub looked-set : (journal : List Entry) (peers : List PeerTables) (looks : List ℕ) (d : ℕ) (x : PeerTables) (s : PeerState) → d < length peers → peer_of x ≡ s → AreLooked journal (set_number (states peers) d s) looks → AreLooked journal (states (set peers d x)) looks
looked-set journal peers looks d x s h p a e =
    subst (λ (t : PeerState). IsLooked (get_or looks e 0) journal t) (sym (peer-at peers d x h e))
    (subst (λ (t : PeerState). IsLooked (get_or looks e 0) journal (set_number (states peers) d t e)) (sym p) (a e))

-- where no more is due than before
pub looked-kept : (journal : List Entry) (peers : List PeerTables) (looks : List ℕ) (d : ℕ) (x y : PeerTables) → d < length peers → x ≡ get_or peers d x → ((n : ℕ) → IsIdleBefore n journal (peer_of x).views → IsIdleBefore n journal (peer_of y).views) → AreLooked journal (states peers) looks → AreLooked journal (states (set peers d y)) looks
looked-kept journal peers looks d x y h x_is k a e = elim (cases_eq e d) [
  | inl i ↦ let b = a d in subst (λ (j : ℕ). IsLooked (get_or looks j 0) journal (states (set peers d y) j)) (sym i) (subst (λ (t : PeerTables). IsLooked (get_or looks d 0) journal (peer_of t)) (sym (get_or-set_same peers d y no_peer_tables h)) (record { idle = k (get_or looks d 0) (subst (λ (t : PeerTables). IsIdleBefore (get_or looks d 0) journal (peer_of t).views) (sym (table-is peers d x h x_is)) b.idle); within = b.within }))
  | inr u ↦ subst (λ (t : PeerTables). IsLooked (get_or looks e 0) journal (peer_of t)) (sym (get_or-set_other peers d e y no_peer_tables u)) (a e)
]

-- at the begin of the journal
pub looked-begun : (journal : List Entry) (s : ℕ → PeerState) (looks : List ℕ) → ((d : ℕ) → get_or looks d 0 ≡ 0) → AreLooked journal s looks
looked-begun journal s looks h d = subst (λ (n : ℕ). IsLooked n journal (s d)) (sym (h d)) (record { idle = λ m l. absurd (omega (arith, l)); within = omega arith })

longer : (xs : List Entry) (e : Entry) (n : ℕ) → n ≤ length xs → n ≤ length (xs ++ e ∷ [])
longer [] e n h = omega (arith, h)
longer (x ∷ xs) e zero h = omega arith
longer (x ∷ xs) e (suc n) h = let i = longer xs e n (omega (arith, h)) in omega (arith, i)

-- an accepted entry
looked-entry : (journal : List Entry) (e : Entry) (s : ℕ → PeerState) (looks : List ℕ) → AreLooked journal s looks → AreLooked (journal ++ e ∷ []) (λ d. peer_given e (entry_count journal e.ro) (s d)) looks
looked-entry journal e s looks a d =
    let b = a d in
    let n = get_or looks d 0 in
    let w = b.within in
    let views = set_order (s d).views e.ro (view_given (is_open (s d).upper && is_whole (kind e.edit)) (entry_count journal e.ro) ((s d).views e.ro)) in
    record {
      idle = idle-pushed n journal views e w (idle-given n journal (s d).views e.ro (is_open (s d).upper && is_whole (kind e.edit)) b.idle);
      within = longer journal e n w;
    }

pub looked-pushed : (journal new : List Entry) (e : Entry) (s t : ℕ → PeerState) (looks : List ℕ) → new ≡ journal ++ e ∷ [] → t ≡ (λ d. peer_given e (entry_count journal e.ro) (s d)) → AreLooked journal s looks → AreLooked new t looks
looked-pushed journal new e s t looks j p a =
    subst (λ (xs : List Entry). AreLooked xs t looks) (sym j) (subst (λ (u : ℕ → PeerState). AreLooked (journal ++ e ∷ []) u looks) (sym p) (looked-entry journal e s looks a))

pub looked-same : (journal new : List Entry) (s t : ℕ → PeerState) (looks : List ℕ) → new ≡ journal → t ≡ s → AreLooked journal s looks → AreLooked new t looks
looked-same journal new s t looks j p a = subst (λ (xs : List Entry). AreLooked xs t looks) (sym j) (subst (λ (u : ℕ → PeerState). AreLooked journal u looks) (sym p) a)

-- what is sent next leaves the views, and want of memory leaves all
pub sent-views : {X Y : Type 0} (r : Result X Y) (journal : List Entry) (now : MosTime) (x y : PeerTables) → OnOk r (peer_of y ≡ (peer_next journal now (peer_of x)).0) → OnErr r (y ≡ x) → (peer_of y).views ≡ (peer_of x).views
sent-views (Ok a) journal now x y e f = ap (λ (s : PeerState). s.views) e ∙ next-views journal now (peer_of x)
sent-views (Err b) journal now x y e f = ap (λ (t : PeerTables). (peer_of t).views) f

-- places at the begin of the journal
pub zeros : (n d : ℕ) → get_or (replicate n zero) d zero ≡ zero
zeros zero d = refl
zeros (suc n) zero = refl
zeros (suc n) (suc d) = zeros n d
