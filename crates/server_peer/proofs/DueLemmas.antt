-- The entry that is found first by the places of the entries is the one that the definition scans the journal for.
use Rattle.std.proofs.Common.{◌≡◌, ◌⊎◌, inl, inr, ℕ, zero, suc, ◌+◌, ◌-◌, ◌<◌, ◌≤◌, Bool, true, false, List, [], ◌∷◌, length, slice_get, take, Option, Some, None, refl, sym, ap, ◌∙◌, subst, if◌then◌else◌, cond, nat_lt, ◌==◌, arith}
use Rattle.std.proofs.lemmas.Bool.Decides.{nat_tests}
use Rattle.mos_edits.specs.Texts.{Text, same_id}
use Rattle.mos_edits.proofs.Identifiers.{same-true, same-self}
use Rattle.mos_edits.specs.Entries.{Entry, entry_count, edit_at}
use Rattle.mos_machines.specs.Server.{ServerOut, View, due_at, due_in, first_due}
use Rattle.mos_machines.specs.Server.View.{Out, Listed, In, From}
use Rattle.mos_machines.specs.Server.ServerOut.{Idle, SendsEdit, SendsAgain, SendsScript, SendsBeat}
use Rattle.mos_machines.specs.Tables.{look, row_ids}
use Rattle.mos_machines.proofs.Least.{first_due-least, first_due-none, due_in-entry}
use Rattle.order_table.specs.Rows.{IsAscending, value_or}
use Rattle.order_table.proofs.AscendingRows.{find-none}
use Rattle.order_table.proofs.Looked.{look-found}
use Rattle.rundown_log.specs.Positions.{positions}
use Rattle.rundown_log.proofs.PositionLemmas.{stands, stands-at}
use Rattle.server_peer.specs.declared.due.Due.{Due}
use Rattle.server_peer.specs.declared.due.DueKind.{DueKind}
use Rattle.server_peer.specs.declared.due.DueKind.TheVariants as due
use Rattle.server_peer.specs.Dues.{due_found, due_of, sooner, first_from, place_number, kind_out, due_out, out_at, out_due}

-- what is sent isn't nothing
pub due-sends : (kind : DueKind) (r : Text) (n : ℕ) → kind_out r n kind ≡ Idle → ⊥
due-sends due.Edit r n f = absurd (cc)
due-sends due.Again r n f = absurd (cc)
due-sends (due.Script k) r n f = absurd (cc)

-- an entry that a view makes due stands in the journal
pub record DueAt (journal : List Entry) (r : Text) (v : View) (d : Due) : Type 0 where
  pub entry : Entry
  pub there : slice_get journal d.place ≡ Some entry
  pub ro : r ≡ entry.ro
  pub within : d.place < length journal
  pub out : due_at r v (entry_count (take d.place journal) r) ≡ due_out r d
  pub numbered : place_number d.kind d.number < entry_count journal r
  pub edit : entry.edit ≡ edit_at journal r (place_number d.kind d.number)

found-at : (journal : List Entry) (r : Text) (v : View) (k number p : ℕ) (kind : DueKind) → slice_get (positions r journal) k ≡ Some p → due_at r v k ≡ due_out r (record { place = p; number = number; kind = kind }) → place_number kind number ≡ k
    → DueAt journal r v (record { place = p; number = number; kind = kind })
found-at journal r v k number p kind e out n =
    let s = stands 0 r journal k p e in
    let place = s.place in
    let m_is : p ≡ s.m = omega (arith, place) in
    let w = s.within in
    let count = s.count in
    let below = s.numbered in
    record {
      entry = s.entry;
      there = ap (λ (i : ℕ). slice_get journal i) m_is ∙ s.there;
      ro = same-true r s.entry.ro s.ro;
      within = omega (arith, m_is, w);
      out = ap (λ (i : ℕ). due_at r v (entry_count (take i journal) r)) m_is ∙ (ap (λ (i : ℕ). due_at r v i) count ∙ out);
      numbered = subst (λ (i : ℕ). i < entry_count journal r) (sym n) below;
      edit = s.edit ∙ ap (edit_at journal r) (sym n);
    }

found-by : (journal : List Entry) (r : Text) (v : View) (d : Due) (k number : ℕ) (kind : DueKind) (o : Option ℕ) → slice_get (positions r journal) k ≡ o → due_found number kind o ≡ Some d
    → ((p : ℕ) → due_at r v k ≡ due_out r (record { place = p; number = number; kind = kind })) → place_number kind number ≡ k → DueAt journal r v d
found-by journal r v d k number kind None e h out n = absurd (cc)
found-by journal r v d k number kind (Some p) e h out n =
    let made : Due = record { place = p; number = number; kind = kind } in
    let d_is : made ≡ d = cc in
    subst (λ (x : Due). DueAt journal r v x) d_is (found-at journal r v k number p kind e (out p) n)

edit-due : (r : Text) (n p : ℕ) → due_at r (In n false []) n ≡ due_out r (record { place = p; number = n; kind = due.Edit })
edit-due r n p = grind (arith, nat_tests)

from-due : (r : Text) (n p : ℕ) → due_at r (From n) n ≡ due_out r (record { place = p; number = n; kind = due.Edit })
from-due r n p = grind (arith, nat_tests)

again-due : (r : Text) (n p : ℕ) → due_at r (In (suc n) true []) n ≡ due_out r (record { place = p; number = suc n; kind = due.Again })
again-due r n p = grind (arith, nat_tests)

script-due : (r : Text) (n p : ℕ) (again : Bool) (k : ℕ) (ks : List ℕ) → due_at r (In (suc n) again (k ∷ ks)) n ≡ due_out r (record { place = p; number = suc n; kind = due.Script k })
script-due r n p again k ks = grind (arith, nat_tests)

pub due-stands : (journal : List Entry) (r : Text) (v : View) (d : Due) → due_of journal r v ≡ Some d → DueAt journal r v d
due-stands journal r Out d h = absurd (cc)
due-stands journal r (Listed m ks) d h = absurd (cc)
due-stands journal r (In n false []) d h = found-by journal r (In n false []) d n n due.Edit (slice_get (positions r journal) n) refl h (edit-due r n) refl
due-stands journal r (In zero true []) d h = absurd (cc)
due-stands journal r (In (suc n) true []) d h = found-by journal r (In (suc n) true []) d n (suc n) due.Again (slice_get (positions r journal) n) refl h (again-due r n) (omega arith)
due-stands journal r (In zero again (k ∷ ks)) d h = absurd (cc)
due-stands journal r (In (suc n) again (k ∷ ks)) d h = found-by journal r (In (suc n) again (k ∷ ks)) d n (suc n) (due.Script k) (slice_get (positions r journal) n) refl h (λ p. script-due r n p again k ks) (omega arith)
due-stands journal r (From k) d h = found-by journal r (From k) d k k due.Edit (slice_get (positions r journal) k) refl h (from-due r k) refl

-- an entry of the journal that is due is what the view of its order makes due
record IsDue (journal : List Entry) (r : Text) (v : View) (n : ℕ) : Type 0 where
  pub due : Due
  pub is : due_of journal r v ≡ Some due
  pub place : due.place ≡ n

equal-by : (a b : ℕ) (c : Bool) → (a == b) ≡ c → c ≡ true → a ≡ b
equal-by a b c e f = grind (arith, nat_tests)

made-due : (journal : List Entry) (r : Text) (v : View) (k number n : ℕ) (kind : DueKind) → slice_get (positions r journal) k ≡ Some n → due_of journal r v ≡ due_found number kind (slice_get (positions r journal) k) → IsDue journal r v n
made-due journal r v k number n kind e h = record { due = record { place = n; number = number; kind = kind }; is = h ∙ ap (due_found number kind) e; place = refl }

-- the number of the view, where it is due
number-by : (r : Text) (a b : ℕ) (o : ServerOut) (c : Bool) → (a == b) ≡ c → ((if c then o else Idle) ≡ Idle → ⊥) → a ≡ b
number-by r a b o true e n = equal-by a b true e refl
number-by r a b o false e n = absurd (n refl)

is-due : (journal : List Entry) (r : Text) (v : View) (k n : ℕ) → slice_get (positions r journal) k ≡ Some n → (due_at r v k ≡ Idle → ⊥) → IsDue journal r v n
is-due journal r Out k n e h = absurd (h refl)
is-due journal r (Listed m ks) k n e h = absurd (h refl)
is-due journal r (In m false []) k n e h =
    let m_is = number-by r m k (SendsEdit r k) (m == k) refl h in
    made-due journal r (In m false []) k m n due.Edit e (ap (λ (i : ℕ). due_found m due.Edit (slice_get (positions r journal) i)) m_is)
is-due journal r (In m true []) k n e h =
    let m_is : m ≡ suc k = number-by r m (k + 1) (SendsAgain r m) (m == k + 1) refl h ∙ omega arith in
    subst (λ (i : ℕ). IsDue journal r (In i true []) n) (sym m_is) (made-due journal r (In (suc k) true []) k (suc k) n due.Again e refl)
is-due journal r (In m again (j ∷ js)) k n e h =
    let m_is : m ≡ suc k = number-by r m (k + 1) (SendsScript r j m) (m == k + 1) refl h ∙ omega arith in
    subst (λ (i : ℕ). IsDue journal r (In i again (j ∷ js)) n) (sym m_is) (made-due journal r (In (suc k) again (j ∷ js)) k (suc k) n (due.Script j) e refl)
is-due journal r (From m) k n e h =
    let m_is = number-by r m k (SendsEdit r k) (m == k) refl h in
    made-due journal r (From m) k m n due.Edit e (ap (λ (i : ℕ). due_found m due.Edit (slice_get (positions r journal) i)) m_is)

-- the one that was found so far stands at this place or before it
abbrev pub AtMost : Option Due → ℕ → Type 0
AtMost None n = ⊥
AtMost (Some d) n = d.place ≤ n

sooner-left : (a b : Option Due) (n : ℕ) → AtMost a n → AtMost (sooner a b) n
sooner-left None b n h = absurd h
sooner-left (Some d) None n h = h
sooner-left (Some d) (Some e) n h = by (nat_lt e.place d.place) refl
  where
    by : (c : Bool) → nat_lt e.place d.place ≡ c → AtMost (cond c (Some e) (Some d)) n
    by true t = grind (arith, nat_tests, h, t)
    by false t = h

sooner-right : (a : Option Due) (e : Due) → AtMost (sooner a (Some e)) e.place
sooner-right None e = omega arith
sooner-right (Some d) e = by (nat_lt e.place d.place) refl
  where
    by : (c : Bool) → nat_lt e.place d.place ≡ c → AtMost (cond c (Some e) (Some d)) e.place
    by true t = omega arith
    by false t = grind (arith, nat_tests, t)

sooner-from : (a b : Option Due) (d : Due) → sooner a b ≡ Some d → (a ≡ Some d) ⊎ (b ≡ Some d)
sooner-from None b d h = inr h
sooner-from (Some x) None d h = inl h
sooner-from (Some x) (Some y) d h = by (nat_lt y.place x.place) h
  where
    by : (c : Bool) → cond c (Some y) (Some x) ≡ Some d → (Some x ≡ Some d) ⊎ (Some y ≡ Some d)
    by true t = inr t
    by false t = inl t

first-best : (journal : List Entry) (best : Option Due) (rows : List (Text × View)) (n : ℕ) → AtMost best n → AtMost (first_from journal best rows) n
first-best journal best [] n h = h
first-best journal best (x ∷ xs) n h = first-best journal (sooner best (due_of journal x.0 x.1)) xs n (sooner-left best (due_of journal x.0 x.1) n h)

pub first-row : (journal : List Entry) (best : Option Due) (rows : List (Text × View)) (r : Text) (e : Due) → due_of journal r (look Out rows r) ≡ Some e → AtMost (first_from journal best rows) e.place
first-row journal best [] r e h = absurd (cc)
first-row journal best (x ∷ xs) r e h = by (same_id r x.0) refl h (first-row journal (sooner best (due_of journal x.0 x.1)) xs r e)
  where
    by : (c : Bool) → same_id r x.0 ≡ c → due_of journal r (if c then x.1 else look Out xs r) ≡ Some e → (due_of journal r (look Out xs r) ≡ Some e → AtMost (first_from journal (sooner best (due_of journal x.0 x.1)) xs) e.place)
        → AtMost (first_from journal (sooner best (due_of journal x.0 x.1)) xs) e.place
    by true s i k =
        let here : due_of journal x.0 x.1 ≡ Some e = subst (λ (z : Text). due_of journal z x.1 ≡ Some e) (same-true r x.0 s) i in
        first-best journal (sooner best (due_of journal x.0 x.1)) xs e.place (subst (λ (o : Option Due). AtMost (sooner best o) e.place) (sym here) (sooner-right best e))
    by false s i k = k i

-- it is that of some row
pub record OfRow (journal : List Entry) (rows : List (Text × View)) (d : Due) : Type 0 where
  pub r : Text
  pub is : due_of journal r (look Out rows r) ≡ Some d

row-here : (journal : List Entry) (x : Text × View) (xs : List (Text × View)) (d : Due) → due_of journal x.0 x.1 ≡ Some d → OfRow journal (x ∷ xs) d
row-here journal x xs d h = record { r = x.0; is = subst (λ (c : Bool). due_of journal x.0 (if c then x.1 else look Out xs x.0) ≡ Some d) (sym (same-self x.0)) h }

row-later : (journal : List Entry) (x : Text × View) (xs : List (Text × View)) (d : Due) → IsAscending (row_ids (x ∷ xs)) → OfRow journal xs d → OfRow journal (x ∷ xs) d
row-later journal x xs d a o = by (same_id o.r x.0) refl
  where
    none : look Out xs x.0 ≡ Out
    none = look-found Out x.0 xs ∙ ap (value_or Out) (find-none x.0 xs a.0)

    same : o.r ≡ x.0 → ⊥
    same e = let h : due_of journal o.r Out ≡ Some d = subst (λ (v : View). due_of journal o.r v ≡ Some d) (ap (look Out xs) e ∙ none) o.is in cc

    by : (c : Bool) → same_id o.r x.0 ≡ c → OfRow journal (x ∷ xs) d
    by true s = absurd (same (same-true o.r x.0 s))
    by false s = record { r = o.r; is = subst (λ (c : Bool). due_of journal o.r (if c then x.1 else look Out xs o.r) ≡ Some d) (sym s) o.is }

first-of : (journal : List Entry) (best : Option Due) (rows : List (Text × View)) (d : Due) → IsAscending (row_ids rows) → first_from journal best rows ≡ Some d → (best ≡ Some d) ⊎ OfRow journal rows d
first-of journal best [] d a h = inl h
first-of journal best (x ∷ xs) d a h = by (first-of journal (sooner best (due_of journal x.0 x.1)) xs d a.1 h)
  where
    here : (best ≡ Some d) ⊎ (due_of journal x.0 x.1 ≡ Some d) → (best ≡ Some d) ⊎ OfRow journal (x ∷ xs) d
    here (inl e) = inl e
    here (inr e) = inr (row-here journal x xs d e)

    by : (sooner best (due_of journal x.0 x.1) ≡ Some d) ⊎ OfRow journal xs d → (best ≡ Some d) ⊎ OfRow journal (x ∷ xs) d
    by (inl e) = here (sooner-from best (due_of journal x.0 x.1) d e)
    by (inr o) = inr (row-later journal x xs d a o)

pub first-is : (journal : List Entry) (rows : List (Text × View)) (d : Due) → IsAscending (row_ids rows) → first_from journal None rows ≡ Some d → OfRow journal rows d
first-is journal rows d a h = by (first-of journal None rows d a h)
  where
    by : (None ≡ Some d) ⊎ OfRow journal rows d → OfRow journal rows d
    by (inl e) = absurd (cc)
    by (inr o) = o

idle-or : (o : ServerOut) → (o ≡ Idle) ⊎ (o ≡ Idle → ⊥)
idle-or Idle = inl refl
idle-or (SendsEdit r k) = inr (λ e. absurd (cc))
idle-or (SendsAgain r k) = inr (λ e. absurd (cc))
idle-or (SendsScript r k m) = inr (λ e. absurd (cc))
idle-or SendsBeat = inr (λ e. absurd (cc))

record Got (journal : List Entry) (n : ℕ) : Type 0 where
  pub entry : Entry
  pub there : slice_get journal n ≡ Some entry

got : (journal : List Entry) (n : ℕ) → n < length journal → Got journal n
got [] n h = absurd (omega (arith, h))
got (x ∷ xs) zero h = record { entry = x; there = refl }
got (x ∷ xs) (suc n) h = let g = got xs n (omega (arith, h)) in record { entry = g.entry; there = g.there }

-- what stands before the one that was found isn't due
pub idle-before : (journal : List Entry) (rows : List (Text × View)) (n : ℕ) → n < length journal → (AtMost (first_from journal None rows) n → ⊥) → due_in (look Out rows) (λ r. 0) journal n ≡ Idle
idle-before journal rows n w b = by (idle-or (due_in (look Out rows) (λ r. 0) journal n))
  where
    by : (due_in (look Out rows) (λ r. 0) journal n ≡ Idle) ⊎ (due_in (look Out rows) (λ r. 0) journal n ≡ Idle → ⊥) → due_in (look Out rows) (λ r. 0) journal n ≡ Idle
    by (inl e) = e
    by (inr m) =
        let g = got journal n w in
        let y = g.entry in
        let due = due_in-entry (look Out rows) (λ r. 0) journal n y g.there in
        let count : 0 + entry_count (take n journal) y.ro ≡ entry_count (take n journal) y.ro = omega arith in
        let at = stands-at 0 journal n y g.there ∙ ap (λ (i : ℕ). Some i) (let z : 0 + n ≡ n = omega arith in z) in
        let i = is-due journal y.ro (look Out rows y.ro) (entry_count (take n journal) y.ro) n at (λ e. m (due ∙ (ap (λ (k : ℕ). due_at y.ro (look Out rows y.ro) k) count ∙ e))) in
        absurd (b (subst (λ (k : ℕ). AtMost (first_from journal None rows) k) i.place (first-row journal None rows y.ro i.due i.is)))

pub first-due : (journal : List Entry) (rows : List (Text × View)) → IsAscending (row_ids rows) → first_due (look Out rows) (λ r. 0) journal ≡ out_due journal (first_from journal None rows)
first-due journal rows a = by (first_from journal None rows) refl
  where
    none : (o : Option Due) → first_from journal None rows ≡ o → o ≡ None → (n : ℕ) → AtMost (first_from journal None rows) n → ⊥
    none o e f n h = let g : first_from journal None rows ≡ None = e ∙ f in subst (λ (x : Option Due). AtMost x n) g h

    later : (d : Due) → first_from journal None rows ≡ Some d → (n : ℕ) → n < d.place → AtMost (first_from journal None rows) n → ⊥
    later d e n l h = let g : d.place ≤ n = subst (λ (x : Option Due). AtMost x n) e h in omega (arith, g, l)

    by : (o : Option Due) → first_from journal None rows ≡ o → first_due (look Out rows) (λ r. 0) journal ≡ out_due journal o
    by None e = first_due-none (look Out rows) (λ r. 0) journal (λ m l. idle-before journal rows m l (none None e refl m))
    by (Some d) e =
        let o = first-is journal rows d a e in
        let s = due-stands journal o.r (look Out rows o.r) d o.is in
        let w = s.within in
        let y = s.entry in
        let count : 0 + entry_count (take d.place journal) y.ro ≡ entry_count (take d.place journal) y.ro = omega arith in
        let at : due_in (look Out rows) (λ r. 0) journal d.place ≡ due_out y.ro d = due_in-entry (look Out rows) (λ r. 0) journal d.place y s.there ∙ (ap (λ (k : ℕ). due_at y.ro (look Out rows y.ro) k) count ∙ subst (λ (r : Text). due_at r (look Out rows r) (entry_count (take d.place journal) r) ≡ due_out r d) s.ro s.out) in
        first_due-least (look Out rows) (λ r. 0) journal d.place (λ m l. idle-before journal rows m (omega (arith, l, w)) (later d e m l)) (λ i. due-sends d.kind y.ro d.number (sym (let z : due_in (look Out rows) (λ r. 0) journal d.place ≡ due_out y.ro d = at in z) ∙ i))
        ∙ (at ∙ ap (out_at d) (sym s.there))
