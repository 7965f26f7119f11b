-- Where the entries of an order stand, and what an entry at the end adds.
use Rattle.std.proofs.Common.{◌≡◌, ℕ, zero, suc, ◌+◌, ◌<◌, ◌≤◌, Bool, true, false, List, [], ◌∷◌, ◌++◌, length, get_or, slice_get, take, Some, None, refl, sym, ap, ◌∙◌, subst, if◌then◌else◌, arith}
use Rattle.mos_edits.specs.Texts.{Text, same_id}
use Rattle.mos_edits.proofs.Identifiers.{same-self}
use Rattle.mos_edits.specs.Entries.{Entry, entries, entry_count, edit_at, no_edit}
use Rattle.rundown_log.specs.Positions.{positions_from, positions}

abbrev pub place_if : Bool → ℕ → List ℕ
place_if true n = n ∷ []
place_if false n = []

pub positions-push : (r : Text) (n : ℕ) (xs : List Entry) (e : Entry) → positions_from n r (xs ++ e ∷ []) ≡ positions_from n r xs ++ place_if (same_id r e.ro) (n + length xs)
positions-push r n [] e = by (same_id r e.ro) n (n + 0) (omega arith)
  where
    by : (b : Bool) (n m : ℕ) → n ≡ m → (if b then n ∷ [] else []) ≡ place_if b m
    by true n m h = ap (λ (k : ℕ). k ∷ []) h
    by false n m h = refl
positions-push r n (x ∷ xs) e = by (same_id r x.ro) (positions-push r (suc n) xs e) (omega arith)
  where
    by : (b : Bool) → positions_from (suc n) r (xs ++ e ∷ []) ≡ positions_from (suc n) r xs ++ place_if (same_id r e.ro) (suc n + length xs) → suc n + length xs ≡ n + suc (length xs)
        → (if b then n ∷ positions_from (suc n) r (xs ++ e ∷ []) else positions_from (suc n) r (xs ++ e ∷ []))
        ≡ (if b then n ∷ positions_from (suc n) r xs else positions_from (suc n) r xs) ++ place_if (same_id r e.ro) (n + suc (length xs))
    by true i h = ap (λ (ys : List ℕ). n ∷ ys) (i ∙ ap (λ (m : ℕ). positions_from (suc n) r xs ++ place_if (same_id r e.ro) m) h)
    by false i h = i ∙ ap (λ (m : ℕ). positions_from (suc n) r xs ++ place_if (same_id r e.ro) m) h

pub positions-count : (r : Text) (n : ℕ) (xs : List Entry) → length (positions_from n r xs) ≡ entry_count xs r
positions-count r n [] = refl
positions-count r n (x ∷ xs) = by (same_id r x.ro) (positions-count r (suc n) xs)
  where
    by : (b : Bool) → length (positions_from (suc n) r xs) ≡ length (entries r xs)
        → length (if b then n ∷ positions_from (suc n) r xs else positions_from (suc n) r xs) ≡ length (if b then x.edit ∷ entries r xs else entries r xs)
    by true i = ap (λ (m : ℕ). suc m) i
    by false i = i

pub count-within : (r : Text) (xs : List Entry) → entry_count xs r ≤ length xs
count-within r [] = omega arith
count-within r (x ∷ xs) = by (same_id r x.ro) (count-within r xs)
  where
    by : (b : Bool) → length (entries r xs) ≤ length xs → length (if b then x.edit ∷ entries r xs else entries r xs) ≤ suc (length xs)
    by true i = omega arith
    by false i = omega arith

-- entry `k` of an order stands at its place: number `m` of this part of the journal
pub record Stands (n : ℕ) (r : Text) (xs : List Entry) (k p : ℕ) : Type 0 where
  pub m : ℕ
  pub place : p ≡ n + m
  pub within : m < length xs
  pub entry : Entry
  pub there : slice_get xs m ≡ Some entry
  pub edit : entry.edit ≡ get_or (entries r xs) k no_edit
  pub ro : same_id r entry.ro ≡ true
  pub count : entry_count (take m xs) r ≡ k
  pub numbered : k < entry_count xs r

pub stands : (n : ℕ) (r : Text) (xs : List Entry) (k p : ℕ) → slice_get (positions_from n r xs) k ≡ Some p → Stands n r xs k p
stands n r [] k p h = absurd (cc)
stands n r (x ∷ xs) k p h = by (same_id r x.ro) refl k h (stands (suc n) r xs)
  where
    first : same_id r x.ro ≡ true → n ≡ p → Stands n r (x ∷ xs) zero p
    first s e = record {
      m = zero;
      place = sym e ∙ omega arith;
      within = omega arith;
      entry = x;
      there = refl;
      edit = subst (λ (b : Bool). x.edit ≡ get_or (if b then x.edit ∷ entries r xs else entries r xs) zero no_edit) (sym s) refl;
      ro = s;
      count = refl;
      numbered = subst (λ (b : Bool). zero < length (if b then x.edit ∷ entries r xs else entries r xs)) (sym s) (omega arith);
    }

    more : (j : ℕ) → same_id r x.ro ≡ true → Stands (suc n) r xs j p → Stands n r (x ∷ xs) (suc j) p
    more j s t =
        let q = t.place in
        let w = t.within in
        let c = t.count in
        let d = t.numbered in
        record {
          m = suc t.m;
          place = omega (arith, q);
          within = omega (arith, w);
          entry = t.entry;
          there = t.there;
          edit = subst (λ (b : Bool). t.entry.edit ≡ get_or (if b then x.edit ∷ entries r xs else entries r xs) (suc j) no_edit) (sym s) t.edit;
          ro = t.ro;
          count = subst (λ (b : Bool). length (if b then x.edit ∷ entries r (take t.m xs) else entries r (take t.m xs)) ≡ suc j) (sym s) (ap (λ (i : ℕ). suc i) c);
          numbered = subst (λ (b : Bool). suc j < length (if b then x.edit ∷ entries r xs else entries r xs)) (sym s) (omega (arith, d));
        }

    other : (j : ℕ) → same_id r x.ro ≡ false → Stands (suc n) r xs j p → Stands n r (x ∷ xs) j p
    other j s t =
        let q = t.place in
        let w = t.within in
        record {
          m = suc t.m;
          place = omega (arith, q);
          within = omega (arith, w);
          entry = t.entry;
          there = t.there;
          edit = subst (λ (b : Bool). t.entry.edit ≡ get_or (if b then x.edit ∷ entries r xs else entries r xs) j no_edit) (sym s) t.edit;
          ro = t.ro;
          count = subst (λ (b : Bool). length (if b then x.edit ∷ entries r (take t.m xs) else entries r (take t.m xs)) ≡ j) (sym s) t.count;
          numbered = subst (λ (b : Bool). j < length (if b then x.edit ∷ entries r xs else entries r xs)) (sym s) t.numbered;
        }

    by : (b : Bool) → same_id r x.ro ≡ b → (k : ℕ) → slice_get (if b then n ∷ positions_from (suc n) r xs else positions_from (suc n) r xs) k ≡ Some p → ((k p : ℕ) → slice_get (positions_from (suc n) r xs) k ≡ Some p → Stands (suc n) r xs k p)
        → Stands n r (x ∷ xs) k p
    by true s zero h i = first s (cc)
    by true s (suc j) h i = more j s (i j p h)
    by false s j h i = other j s (i j p h)

-- an entry of the journal stands among the places of its order
pub stands-at : (n : ℕ) (xs : List Entry) (m : ℕ) (y : Entry) → slice_get xs m ≡ Some y → slice_get (positions_from n y.ro xs) (entry_count (take m xs) y.ro) ≡ Some (n + m)
stands-at n [] m y h = absurd (cc)
stands-at n (x ∷ xs) zero y h =
    let x_is : x ≡ y = cc in
    let z : n ≡ n + 0 = omega arith in
    subst (λ (w : Entry). slice_get (positions_from n w.ro (x ∷ xs)) zero ≡ Some (n + 0)) x_is
    (subst (λ (b : Bool). slice_get (if b then n ∷ positions_from (suc n) x.ro xs else positions_from (suc n) x.ro xs) zero ≡ Some (n + 0)) (sym (same-self x.ro)) (ap (λ (i : ℕ). Some i) z))
stands-at n (x ∷ xs) (suc m) y h = by (same_id y.ro x.ro) (stands-at (suc n) xs m y h) (omega arith)
  where
    by : (b : Bool) → slice_get (positions_from (suc n) y.ro xs) (entry_count (take m xs) y.ro) ≡ Some (suc n + m) → suc n + m ≡ n + suc m
        → slice_get (if b then n ∷ positions_from (suc n) y.ro xs else positions_from (suc n) y.ro xs) (length (if b then x.edit ∷ entries y.ro (take m xs) else entries y.ro (take m xs))) ≡ Some (n + suc m)
    by true i e = i ∙ ap (λ (j : ℕ). Some j) e
    by false i e = i ∙ ap (λ (j : ℕ). Some j) e

-- what stands at the place of entry `k`
pub stands-entry : (r : Text) (xs : List Entry) (k p : ℕ) (y : Entry) → slice_get (positions r xs) k ≡ Some p → slice_get xs p ≡ Some y → y.edit ≡ edit_at xs r k
stands-entry r xs k p y h g =
    let s = stands 0 r xs k p h in
    let place = s.place in
    let m_is : p ≡ s.m = omega (arith, place) in
    let same : Some s.entry ≡ Some y = sym s.there ∙ (ap (slice_get xs) (sym m_is) ∙ g) in
    let y_is : y ≡ s.entry = cc in
    ap (λ (e : Entry). e.edit) y_is ∙ s.edit

get-missing : (xs : List ℕ) (k : ℕ) → k < length xs → slice_get xs k ≡ None → ⊥
get-missing [] k h n = absurd (omega arith)
get-missing (x ∷ xs) zero h n = absurd (cc)
get-missing (x ∷ xs) (suc k) h n = get-missing xs k (omega arith) n

pub not-missing : (r : Text) (xs : List Entry) (k : ℕ) → k < entry_count xs r → slice_get (positions r xs) k ≡ None → ⊥
not-missing r xs k h n = let c = positions-count r 0 xs in get-missing (positions r xs) k (omega (arith, c, h)) n
