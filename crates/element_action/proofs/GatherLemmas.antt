-- Elements that are put together before a place.
use Rattle.std.proofs.Common.{◌≡◌, ℕ, zero, suc, ◌+◌, ◌-◌, ◌<◌, ◌≤◌, List, [], ◌∷◌, ◌++◌, length, slice_get, get_or, take, drop, map, Bool, true, false, not, ◌&&◌, ◌||◌, Option, Some, None, arith, refl, if◌then◌else◌, sym, ap, ◌∙◌, subst, append_assoc, length-append}
use Rattle.std.proofs.lemmas.List.{map-append, append-nil, take-map, drop-map, take-append-drop, take_all, drop_all, length-map, drop_more}
use Rattle.std.specs.List.Sorted.{IsPermutation}
use Rattle.std.proofs.lemmas.List.Sorted.{IsPermutation-trans, IsPermutation-append_comm, IsPermutation-append_left}
use Rattle.mos_edits.specs.Texts.{Text, same_id, has_id}
use Rattle.mos_edits.specs.KeyedLists.{ids, find, with_found, picked, without, put_at, put_before, first_missing, missing_if_not, lacking_place}
use Rattle.mos_edits.specs.KeyedLists.ActFault.{Missing}
use Rattle.mos_edits.proofs.Identifiers.{same-true}
use Rattle.mos_edits.proofs.Distinct.{is-distinct, are-distinct, key-find}
use Rattle.mos_values.specs.Distinct.{AreDistinct}
use Rattle.running_order.specs.Places.{place_of}
use Rattle.element_action.specs.Targets.{gathered, target_place_of, place_in}
use Rattle.element_action.proofs.PlaceLemmas.{Stands, place_stands, place_none}
use Rattle.element_action.proofs.MoveLemmas.{without_append}
use Rattle.element_action.proofs.SourceLemmas.{ids_without, missing-none}
use Rattle.element_action.proofs.LawLemmas.{all_picked}

-- sources that are there, none twice, are distinct
pub sources_distinct : (there ss : List Text) → first_missing there [] ss ≡ None → AreDistinct ss
sources_distinct there ss h = are-distinct ss (missing-none there [] ss h).0

-- one identifier more of a list
pub others_next : (gone there : List Text) (k : ℕ) (id : Text) (old new : List Text) → k < length there → id ≡ get_or there k id → new ≡ old ++ without (λ x. x) gone (id ∷ []) → new ++ without (λ x. x) gone (drop (k + 1) there) ≡ old ++ without (λ x. x) gone (drop k there)
others_next gone there k id old new lt at e =
    let rest = drop (k + 1) there in
    let split : drop k there ≡ (id ∷ []) ++ rest = drop_more there k id lt ∙ ap (λ u. u ∷ rest) (sym at) in
    ap (λ l. l ++ without (λ x. x) gone rest) e ∙ append_assoc old (without (λ x. x) gone (id ∷ [])) (without (λ x. x) gone rest)
    ∙ ap (λ l. old ++ l) (sym (without_append (λ x. x) gone (id ∷ []) rest) ∙ ap (λ l. without (λ x. x) gone l) (sym split))

pub all_next : (there : List Text) (k : ℕ) (id : Text) (old new : List Text) → k < length there → id ≡ get_or there k id → new ≡ old ++ id ∷ [] → new ++ drop (k + 1) there ≡ old ++ drop k there
all_next there k id old new lt at e =
    let rest = drop (k + 1) there in
    let split : drop k there ≡ id ∷ rest = drop_more there k id lt ∙ ap (λ u. u ∷ rest) (sym at) in
    ap (λ l. l ++ rest) e ∙ append_assoc old (id ∷ []) rest ∙ ap (λ l. old ++ l) (sym split)

module _ {X : Type 0} (key : X → Text) where
  has_there : (s : Text) (xs : List X) → has_id s (ids key xs) ≡ true → (x : X) × (find key s xs ≡ Some x)
  has_there s [] h = absurd (cc)
  has_there s (x ∷ xs) h = go (same_id s (key x)) (has_there s xs) h
    where
      go : (b : Bool) → (has_id s (ids key xs) ≡ true → (x : X) × (find key s xs ≡ Some x)) → b || has_id s (ids key xs) ≡ true → (v : X) × ((if b then Some x else find key s xs) ≡ Some v)
      go true r h = (x, refl)
      go false r h = r h

  -- what is picked by identifiers that are all there has these
  pub picked_ids : (before ss : List Text) (xs : List X) → first_missing (ids key xs) before ss ≡ None → ids key (picked key ss xs) ≡ ss
  picked_ids before [] xs h = refl
  picked_ids before (s ∷ ss) xs h = go (has_id s (ids key xs)) (has_id s before) refl h (picked_ids (s ∷ before) ss xs)
    where
      go : (p q : Bool) → has_id s (ids key xs) ≡ p → (if p && not q then first_missing (ids key xs) (s ∷ before) ss else Some (Missing s)) ≡ None
          → (first_missing (ids key xs) (s ∷ before) ss ≡ None → ids key (picked key ss xs) ≡ ss) → ids key (with_found (find key s xs) (picked key ss xs)) ≡ s ∷ ss
      go false q e h r = absurd (cc)
      go true true e h r = absurd (cc)
      go true false e h r =
          let f = has_there s xs e in
          rw (f.1) (λ j. key-find key s xs f.0 f.1 j ∷ r h j)

  pub gathered_ids : (at : ℕ) (ss : List Text) (xs : List X) → first_missing (ids key xs) [] ss ≡ None
      → ids key (gathered key at ss xs) ≡ without (λ x. x) ss (take at (ids key xs)) ++ (ss ++ without (λ x. x) ss (drop at (ids key xs)))
  gathered_ids at ss xs h =
      let a = without key ss (take at xs) in
      let b = without key ss (drop at xs) in
      let p = picked key ss xs in
      map-append key a (p ++ b) ∙ ap (λ l. map key a ++ l) (map-append key p b)
      ∙ (λ j. ids_without key ss (take at xs) j ++ (picked_ids [] ss xs h j ++ ids_without key ss (drop at xs) j))
      ∙ (λ j. without (λ x. x) ss (sym (take-map key at xs) j) ++ (ss ++ without (λ x. x) ss (sym (drop-map key at xs) j)))

  pub gathered_permutes : (at : ℕ) (ss : List Text) (xs : List X) → first_missing (ids key xs) [] ss ≡ None → AreDistinct (ids key xs) → IsPermutation xs (gathered key at ss xs)
  gathered_permutes at ss xs h d =
      let a = without key ss (take at xs) in
      let b = without key ss (drop at xs) in
      let p = picked key ss xs in
      let both : without key ss xs ≡ a ++ b = ap (λ l. without key ss l) (sym (take-append-drop at xs)) ∙ without_append key ss (take at xs) (drop at xs) in
      let one = subst (λ l. IsPermutation xs (p ++ l)) both (all_picked key ss xs (missing-none (ids key xs) [] ss h).0 (is-distinct (ids key xs) d)) in
      let two : IsPermutation (p ++ (a ++ b)) (a ++ (p ++ b)) =
      subst (λ l. IsPermutation l (a ++ (p ++ b))) (append_assoc p a b)
      (subst (λ l. IsPermutation ((p ++ a) ++ b) l) (append_assoc a p b) (IsPermutation-append_left b (p ++ a) (a ++ p) (IsPermutation-append_comm p a))) in
      IsPermutation-trans xs (p ++ (a ++ b)) (a ++ (p ++ b)) one two

  -- before the place of the target
  gathered_at : (t : Text) (ss : List Text) (ps xs : List X) (n : ℕ) → Stands key t xs n → has_id t ss ≡ false → put_at key t ps (without key ss xs) ≡ without key ss (take n xs) ++ (ps ++ without key ss (drop n xs))
  gathered_at t ss ps [] n s h = absurd s
  gathered_at t ss ps (x ∷ xs) zero s h =
      let stays : has_id (key x) ss ≡ false = subst (λ u. has_id u ss ≡ false) (same-true t (key x) s) h in
      rw (stays, s) refl
  gathered_at t ss ps (x ∷ xs) (suc n) s h = go (has_id (key x) ss) (gathered_at t ss ps xs n s.1 h)
    where
      go : (b : Bool) → put_at key t ps (without key ss xs) ≡ without key ss (take n xs) ++ (ps ++ without key ss (drop n xs))
          → put_at key t ps (if b then without key ss xs else x ∷ without key ss xs) ≡ (if b then without key ss (take n xs) else x ∷ without key ss (take n xs)) ++ (ps ++ without key ss (drop n xs))
      go true r = r
      go false r = rw (s.0) (ap (λ l. x ∷ l) r)

  pub gathered_end : (ss : List Text) (ps xs : List X) → without key ss (take (length xs) xs) ++ (ps ++ without key ss (drop (length xs) xs)) ≡ without key ss xs ++ ps
  gathered_end ss ps xs =
      let le : length xs ≤ length xs = omega arith in
      (λ j. without key ss (take_all (length xs) xs le j) ++ (ps ++ without key ss (drop_all (length xs) xs le j))) ∙ ap (λ l. without key ss xs ++ l) (append-nil ps)

  -- a MOVE puts the sources together before the target
  pub moved_together : (t : Text) (ss : List Text) (xs : List X) → lacking_place (ids key xs) ss t ≡ None
      → gathered key (place_in (length xs) (target_place_of t (ids key xs))) ss xs ≡ put_before key t (picked key ss xs) (without key ss xs)
  moved_together [] ss xs h = gathered_end ss (picked key ss xs) xs
  moved_together (c ∷ cs) ss xs h = go (has_id (c ∷ cs) (ids key xs)) (has_id (c ∷ cs) ss) refl refl h
    where
      at : (o : Option ℕ) → place_of (c ∷ cs) (ids key xs) ≡ o → has_id (c ∷ cs) (ids key xs) ≡ true → has_id (c ∷ cs) ss ≡ false → gathered key (place_in (length xs) o) ss xs ≡ put_at key (c ∷ cs) (picked key ss xs) (without key ss xs)
      at None e i n = absurd (let g = place_none key (c ∷ cs) xs e in cc)
      at (Some k) e i n = sym (gathered_at (c ∷ cs) ss (picked key ss xs) xs k (place_stands key (c ∷ cs) xs k e) n)

      go : (p q : Bool) → has_id (c ∷ cs) (ids key xs) ≡ p → has_id (c ∷ cs) ss ≡ q → missing_if_not (p && not q) (c ∷ cs) ≡ None → gathered key (place_in (length xs) (place_of (c ∷ cs) (ids key xs))) ss xs ≡ put_at key (c ∷ cs) (picked key ss xs) (without key ss xs)
      go true false e f h = at (place_of (c ∷ cs) (ids key xs)) refl e f
      go true true e f h = absurd (cc)
      go false q e f h = absurd (cc)

  -- what stands together at the end is taken away from there
  pub removed_together : (ss : List Text) (xs : List X) (n : ℕ) → first_missing (ids key xs) [] ss ≡ None → n ≡ length xs → take (length (gathered key n ss xs) - length ss) (gathered key n ss xs) ≡ without key ss xs
  removed_together ss xs n h e =
      let w = without key ss xs in
      let p = picked key ss xs in
      let all : gathered key n ss xs ≡ w ++ p = ap (λ k. gathered key k ss xs) e ∙ gathered_end ss p xs in
      let long : length p ≡ length ss = sym (length-map p key) ∙ ap length (picked_ids [] ss xs h) in
      let both = length-append w p in
      let front : length (w ++ p) - length ss ≡ length w = omega (arith, long, both) in
      ap (λ l. take (length l - length ss) l) all ∙ ap (λ k. take k (w ++ p)) front ∙ taken w p
    where
      taken : (w p : List X) → take (length w) (w ++ p) ≡ w
      taken [] p = refl
      taken (x ∷ w) p = ap (λ l. x ∷ l) (taken w p)

  pub fewer : (ss : List Text) (xs : List X) (n : ℕ) → first_missing (ids key xs) [] ss ≡ None → n ≡ length xs → length ss ≤ length (gathered key n ss xs)
  fewer ss xs n h e =
      let w = without key ss xs in
      let p = picked key ss xs in
      let all = ap length (ap (λ k. gathered key k ss xs) e ∙ gathered_end ss p xs) in
      let long : length p ≡ length ss = sym (length-map p key) ∙ ap length (picked_ids [] ss xs h) in
      let both = length-append w p in
      omega (arith, all, long, both)

  -- the identifier of an element, and those behind it
  pub id_here : (xs : List X) (k : ℕ) (x : X) (old new : List Text) → slice_get xs k ≡ Some x → new ≡ old ++ key x ∷ [] → new ++ drop (k + 1) (ids key xs) ≡ old ++ drop k (ids key xs)
  id_here xs k x old new g e = ap (λ l. l ++ drop (k + 1) (ids key xs)) e ∙ append_assoc old (key x ∷ []) (drop (k + 1) (ids key xs)) ∙ ap (λ l. old ++ l) (sym (split xs k g ∙ ap (λ n. key x ∷ drop n (ids key xs)) one))
    where
      one : suc k ≡ k + 1
      one = omega arith

      split : (xs : List X) (k : ℕ) → slice_get xs k ≡ Some x → drop k (ids key xs) ≡ key x ∷ drop (suc k) (ids key xs)
      split [] k g = absurd (cc)
      split (y ∷ ys) zero g = let h : y ≡ x = cc in ap (λ z. key z ∷ ids key ys) h
      split (y ∷ ys) (suc k) g = split ys k g

-- none is left
pub others_end : (gone there : List Text) (k : ℕ) (list whole : List Text) → length there ≤ k → list ++ without (λ x. x) gone (drop k there) ≡ whole → list ≡ whole
others_end gone there k list whole le h = sym (append-nil list) ∙ ap (λ l. list ++ without (λ x. x) gone l) (sym (drop_all k there le)) ∙ h

pub all_end : (there : List Text) (k : ℕ) (list whole : List Text) → length there ≤ k → list ++ drop k there ≡ whole → list ≡ whole
all_end there k list whole le h = sym (append-nil list) ∙ ap (λ l. list ++ l) (sym (drop_all k there le)) ∙ h

-- without one that isn't among them, and with one that is
pub other_kept : (id : Text) (gone : List Text) → has_id id gone ≡ false → without (λ x. x) gone (id ∷ []) ≡ id ∷ []
other_kept id gone h = rw h refl

pub other_gone : (id : Text) (gone : List Text) → has_id id gone ≡ true → without (λ x. x) gone (id ∷ []) ≡ []
other_gone id gone h = rw h refl
