-- Sums over lists: what an action brings is in the list that it leaves, and what it takes is in the list that it found.
use Rattle.std.proofs.Common.{◌≡◌, ℕ, ◌+◌, ◌≤◌, Bool, true, false, not, ◌&&◌, List, [], ◌∷◌, ◌++◌, Option, Some, None, if◌then◌else◌, arith, refl, ap, subst}
use Rattle.std.specs.List.{AllByRecursion}
use Rattle.mos_edits.specs.Texts.{Text, same_id, has_id}
use Rattle.mos_edits.specs.KeyedLists.{ActFault, ListAction, ids, find, without, put_for, put_at, put_before, first_of, lacking, lacking_place, missing_if_not, first_repeated, first_missing, list_fault, list_result, act_list}
use Rattle.mos_edits.specs.KeyedLists.ActFault.{Missing}
use Rattle.mos_edits.specs.KeyedLists.Applied.{Done}
use Rattle.mos_edits.specs.KeyedLists.ListAction.{Insert, Replace, Move, Delete, Swap}
use Rattle.mos_edits.proofs.Identifiers.{same-true, same-sym, has-without}
use Rattle.mos_edits.proofs.Distinct.{IsDistinct}
use Rattle.mos_edits.proofs.Swaps.{find-has, done-fault}

abbrev pub total : {X : Type 0} → (X → ℕ) → List X → ℕ
total w [] = 0
total w (x ∷ xs) = w x + total w xs

pub total-append : {X : Type 0} (w : X → ℕ) (xs ys : List X) → total w (xs ++ ys) ≡ total w xs + total w ys
total-append w [] ys = omega arith
total-append w (x ∷ xs) ys = let i = total-append w xs ys in omega (arith, i)

-- ---- what is put in

total-put_at : {X : Type 0} (w : X → ℕ) (key : X → Text) (t : Text) (new xs : List X) → total w new ≤ total w (put_at key t new xs)
total-put_at w key t new [] = omega arith
total-put_at w key t new (x ∷ xs) = go (same_id t (key x)) (total-put_at w key t new xs)
  where
    go : (b : Bool) → total w new ≤ total w (put_at key t new xs) → total w new ≤ total w (if b then new ++ (x ∷ xs) else x ∷ put_at key t new xs)
    go true i = let e = total-append w new (x ∷ xs) in omega (arith, e)
    go false i = omega (arith, i)

total-put_before : {X : Type 0} (w : X → ℕ) (key : X → Text) (t : Text) (new xs : List X) → total w new ≤ total w (put_before key t new xs)
total-put_before w key [] new xs = let e = total-append w xs new in omega (arith, e)
total-put_before w key (c ∷ cs) new xs = total-put_at w key (c ∷ cs) new xs

pub total-put_for : {X : Type 0} (w : X → ℕ) (key : X → Text) (t : Text) (new xs : List X) (y : X) → find key t xs ≡ Some y → total w new ≤ total w (put_for key t new xs)
total-put_for w key t new [] y h = absurd (cc)
total-put_for w key t new (x ∷ xs) y h = go (same_id t (key x)) (total-put_for w key t new xs y) h
  where
    go : (b : Bool) → (find key t xs ≡ Some y → total w new ≤ total w (put_for key t new xs)) → (if b then Some x else find key t xs) ≡ Some y → total w new ≤ total w (if b then new ++ xs else x ∷ put_for key t new xs)
    go true i e = let a = total-append w new xs in omega (arith, a)
    go false i e = let a = i e in omega (arith, a)

pub total-find : {X : Type 0} (w : X → ℕ) (key : X → Text) (t : Text) (xs : List X) (y : X) → find key t xs ≡ Some y → w y ≤ total w xs
total-find w key t [] y h = absurd (cc)
total-find w key t (x ∷ xs) y h = go (same_id t (key x)) (total-find w key t xs y) h
  where
    go : (b : Bool) → (find key t xs ≡ Some y → w y ≤ total w xs) → (if b then Some x else find key t xs) ≡ Some y → w y ≤ w x + total w xs
    go true i e = let y_is : x ≡ y = cc in subst (λ z. w z ≤ w x + total w xs) y_is (omega arith)
    go false i e = let a = i e in omega (arith, a)

-- ---- what is taken: identifiers that are there, none twice

abbrev AreThere : List Text → List Text → Type 0
AreThere ss there = AllByRecursion (λ s. has_id s there ≡ true) ss

there-distinct : (there before ss : List Text) → first_missing there before ss ≡ None → AreThere ss there × IsDistinct ss × AllByRecursion (λ s. has_id s before ≡ false) ss
there-distinct there before [] h = (tt, tt, tt)
there-distinct there before (s ∷ ss) h = go (has_id s there) (has_id s before) refl refl (there-distinct there (s ∷ before) ss) h
  where
    once : (ts : List Text) → AllByRecursion (λ t. has_id t (s ∷ before) ≡ false) ts → has_id s ts ≡ false
    once [] a = refl
    once (t ∷ ts) a = let i = once ts a.1 in let e = same-sym s t in grind (arith, a.0, i, e)

    less : (ts : List Text) → AllByRecursion (λ t. has_id t (s ∷ before) ≡ false) ts → AllByRecursion (λ t. has_id t before ≡ false) ts
    less [] a = tt
    less (t ∷ ts) a = (grind (arith, a.0), less ts a.1)

    go : (p q : Bool) → has_id s there ≡ p → has_id s before ≡ q
        → (first_missing there (s ∷ before) ss ≡ None → AreThere ss there × IsDistinct ss × AllByRecursion (λ t. has_id t (s ∷ before) ≡ false) ss)
        → (if p && not q then first_missing there (s ∷ before) ss else Some (Missing s)) ≡ None → AreThere (s ∷ ss) there × IsDistinct (s ∷ ss) × AllByRecursion (λ t. has_id t before ≡ false) (s ∷ ss)
    go false q e f r h = absurd (cc)
    go true true e f r h = absurd (cc)
    go true false e f r h = let i = r h in ((e, i.0), (once ss i.2, i.1), (f, less ss i.2))

-- without one identifier
abbrev cut : Text → List Text → List Text
cut k ss = without (λ id. id) (k ∷ []) ss

total-uncut : (size : Text → ℕ) (k : Text) (ss : List Text) → has_id k ss ≡ false → total size ss ≤ total size (cut k ss)
total-uncut size k [] h = omega arith
total-uncut size k (s ∷ ss) h = go (has_id s (k ∷ [])) refl (total-uncut size k ss (grind (arith, h)))
  where
    go : (b : Bool) → has_id s (k ∷ []) ≡ b → total size ss ≤ total size (cut k ss) → total size (s ∷ ss) ≤ total size (if b then cut k ss else s ∷ cut k ss)
    go true e i = absurd (let y = same-sym k s in grind (arith, e, y, h))
    go false e i = omega (arith, i)

total-cut : (size : Text → ℕ) (k : Text) (ss : List Text) → IsDistinct ss → total size ss ≤ size k + total size (cut k ss)
total-cut size k [] d = omega arith
total-cut size k (s ∷ ss) d = go (has_id s (k ∷ [])) refl (total-cut size k ss d.1)
  where
    go : (b : Bool) → has_id s (k ∷ []) ≡ b → total size ss ≤ size k + total size (cut k ss) → total size (s ∷ ss) ≤ size k + total size (if b then cut k ss else s ∷ cut k ss)
    go true e i =
        let s_is : s ≡ k = same-true s k (grind (arith, e)) in
        let n : has_id k ss ≡ false = subst (λ (z : Text). has_id z ss ≡ false) s_is d.0 in
        let u = total-uncut size k ss n in
        let m : size s ≡ size k = ap size s_is in
        omega (arith, u, m)
    go false e i = omega (arith, i)

distinct-cut : (k : Text) (ss : List Text) → IsDistinct ss → IsDistinct (cut k ss)
distinct-cut k [] d = tt
distinct-cut k (s ∷ ss) d = go (has_id s (k ∷ [])) (distinct-cut k ss d.1)
  where
    go : (b : Bool) → IsDistinct (cut k ss) → IsDistinct (if b then cut k ss else s ∷ cut k ss)
    go true i = i
    go false i = (let w = has-without s (k ∷ []) ss in grind (arith, w, d.0), i)

there-cut : (k : Text) (there ss : List Text) → AreThere ss (k ∷ there) → AreThere (cut k ss) there
there-cut k there [] a = tt
there-cut k there (s ∷ ss) a = go (has_id s (k ∷ [])) refl (there-cut k there ss a.1)
  where
    go : (b : Bool) → has_id s (k ∷ []) ≡ b → AreThere (cut k ss) there → AreThere (if b then cut k ss else s ∷ cut k ss) there
    go true e i = i
    go false e i = (grind (arith, e, a.0), i)

total-taken : {X : Type 0} (w : X → ℕ) (size : Text → ℕ) (key : X → Text) → ((x : X) → size (key x) ≤ w x) → (xs : List X) (ss : List Text) → IsDistinct ss → AreThere ss (ids key xs) → total size ss ≤ total w xs
total-taken w size key f [] [] d a = omega arith
total-taken w size key f [] (s ∷ ss) d a = absurd (cc)
total-taken w size key f (x ∷ xs) ss d a =
    let i = total-taken w size key f xs (cut (key x) ss) (distinct-cut (key x) ss d) (there-cut (key x) (ids key xs) ss a) in
    let c = total-cut size (key x) ss d in
    let g = f x in
    omega (arith, i, c, g)

-- ---- actions

-- what an action brings is within `after`, and what it moves or deletes within `before`
abbrev pub Within : {X : Type 0} → (X → ℕ) → (Text → ℕ) → ℕ → ℕ → ListAction X → Type 0
Within w size before after (Insert target sources) = total w sources ≤ after
Within w size before after (Replace target sources) = total w sources ≤ after
Within w size before after (Move target sources) = total size sources ≤ before
Within w size before after (Delete sources) = total size sources ≤ before
Within w size before after (Swap a b) = Unit {0}

pub within-more : {X : Type 0} (w : X → ℕ) (size : Text → ℕ) (b a c d : ℕ) (action : ListAction X) → b ≤ c → a ≤ d → Within w size b a action → Within w size c d action
within-more w size b a c d (Insert target sources) p q h = omega (arith, q, h)
within-more w size b a c d (Replace target sources) p q h = omega (arith, q, h)
within-more w size b a c d (Move target sources) p q h = omega (arith, p, h)
within-more w size b a c d (Delete sources) p q h = omega (arith, p, h)
within-more w size b a c d (Swap x y) p q h = tt

first-none : (a b : Option ActFault) → first_of a b ≡ None → (a ≡ None) × (b ≡ None)
first-none None b h = (refl, h)
first-none (Some f) b h = absurd (cc)

not-missing : (b : Bool) (id : Text) → missing_if_not b id ≡ None → b ≡ true
not-missing true id h = refl
not-missing false id h = absurd (cc)

within-result : {X : Type 0} (w : X → ℕ) (size : Text → ℕ) (key : X → Text) → ((x : X) → size (key x) ≤ w x) → (action : ListAction X) (xs : List X) → list_fault key action (ids key xs) ≡ None
    → Within w size (total w xs) (total w (list_result key action xs)) action
within-result w size key f (Insert target sources) xs h = total-put_before w key target sources xs
within-result w size key f (Replace target sources) xs h =
    let n = first-none (lacking (ids key xs) target) (first_repeated (without (λ id. id) (target ∷ []) (ids key xs)) [] (ids key sources)) h in
    let y = find-has key target xs (not-missing (has_id target (ids key xs)) target n.0) in
    total-put_for w key target sources xs y.0 y.1
within-result w size key f (Move target sources) xs h =
    let n = first-none (lacking_place (ids key xs) sources target) (first_missing (ids key xs) [] sources) h in
    let t = there-distinct (ids key xs) [] sources n.1 in
    total-taken w size key f xs sources t.1 t.0
within-result w size key f (Delete sources) xs h = let t = there-distinct (ids key xs) [] sources h in total-taken w size key f xs sources t.1 t.0
within-result w size key f (Swap a b) xs h = tt

pub within-act_list : {X : Type 0} (w : X → ℕ) (size : Text → ℕ) (key : X → Text) → ((x : X) → size (key x) ≤ w x) → (action : ListAction X) (xs ys : List X) → act_list key action xs ≡ Done ys
    → Within w size (total w xs) (total w ys) action
within-act_list {X = X} w size key f action xs ys h =
    let d = done-fault (list_fault key action (ids key xs)) (list_result key action xs) ys h in
    subst (λ (zs : List X). Within w size (total w xs) (total w zs) action) d.1 (within-result w size key f action xs d.0)
