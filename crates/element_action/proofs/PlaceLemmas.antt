-- The place of an identifier, and what stands there.
use Rattle.std.proofs.Common.{◌≡◌, ℕ, zero, suc, ◌<◌, List, [], ◌∷◌, ◌++◌, length, slice_get, get_or, remove, Bool, true, false, ◌||◌, Some, None, arith, refl, if◌then◌else◌, sym, ap, ◌∙◌, subst}
use Rattle.std.proofs.lemmas.List.Quantifiers.{position-Some}
use Rattle.std.specs.Option.{is_some}
use Rattle.mos_edits.specs.Texts.{Text, same_id, has_id}
use Rattle.mos_edits.specs.KeyedLists.{ids, find, without, put_for, put_at}
use Rattle.running_order.specs.Places.{place_of, put_in, put_over}
use Rattle.running_order.proofs.Scripts.{place-has}
use Rattle.mos_edits.proofs.Identifiers.{same-true, same-self, same-sym}
use Rattle.mos_edits.proofs.Distinct.{IsDistinct}

module _ {X : Type 0} (key : X → Text) where
  -- the identifier stands at the place, and not before it
  abbrev pub Stands : Text → List X → ℕ → Type 0
  Stands t [] n = ⊥
  Stands t (x ∷ xs) zero = same_id t (key x) ≡ true
  Stands t (x ∷ xs) (suc n) = (same_id t (key x) ≡ false) × Stands t xs n

  stands_by : (t : Text) (xs : List X) (n : ℕ) (d : Text) → n < length (ids key xs) → same_id t (get_or (ids key xs) n d) ≡ true → ((k : ℕ) → k < n → same_id t (get_or (ids key xs) k d) ≡ false) → Stands t xs n
  stands_by t [] n d lt at before = absurd (omega (arith, lt))
  stands_by t (x ∷ xs) zero d lt at before = at
  stands_by t (x ∷ xs) (suc n) d lt at before = (before 0 (omega arith), stands_by t xs n d (omega (arith, lt)) at (λ k l. before (suc k) (omega (arith, l))))

  pub place_stands : (t : Text) (xs : List X) (n : ℕ) → place_of t (ids key xs) ≡ Some n → Stands t xs n
  place_stands t xs n h = let p = position-Some (same_id t) (ids key xs) n t h in stands_by t xs n t p.0 p.1 p.2

  pub place_has : (t : Text) (xs : List X) → is_some (place_of t (ids key xs)) ≡ has_id t (ids key xs)
  place_has t xs = place-has t (ids key xs)

  pub place_none : (t : Text) (xs : List X) → place_of t (ids key xs) ≡ None → has_id t (ids key xs) ≡ false
  place_none t xs h = sym (place_has t xs) ∙ ap (λ o. is_some o) h

  pub stands_within : (t : Text) (xs : List X) (n : ℕ) → Stands t xs n → n < length xs
  stands_within t [] n h = absurd h
  stands_within t (x ∷ xs) zero h = omega arith
  stands_within t (x ∷ xs) (suc n) h = let r = stands_within t xs n h.1 in omega (arith, r)

  -- what is found there
  pub stands_find : (t : Text) (xs : List X) (n : ℕ) → Stands t xs n → find key t xs ≡ slice_get xs n
  stands_find t [] n h = absurd h
  stands_find t (x ∷ xs) zero h = rw h refl
  stands_find t (x ∷ xs) (suc n) h = rw (h.0) (stands_find t xs n h.1)

  pub find_none : (t : Text) (xs : List X) → has_id t (ids key xs) ≡ false → find key t xs ≡ None
  find_none t [] h = refl
  find_none t (x ∷ xs) h = go (same_id t (key x)) (find_none t xs) h
    where
      go : (b : Bool) → (has_id t (ids key xs) ≡ false → find key t xs ≡ None) → b || has_id t (ids key xs) ≡ false → (if b then Some x else find key t xs) ≡ None
      go true r h = absurd (cc)
      go false r h = r h

  -- edits there
  pub put_at_place : (t : Text) (new xs : List X) (n : ℕ) → Stands t xs n → put_at key t new xs ≡ put_in xs n new
  put_at_place t new [] n h = absurd h
  put_at_place t new (x ∷ xs) zero h = rw h refl
  put_at_place t new (x ∷ xs) (suc n) h = rw (h.0) (ap (λ l. x ∷ l) (put_at_place t new xs n h.1))

  pub put_for_place : (t : Text) (new xs : List X) (n : ℕ) → Stands t xs n → put_for key t new xs ≡ put_over xs n new
  put_for_place t new [] n h = absurd h
  put_for_place t new (x ∷ xs) zero h = rw h refl
  put_for_place t new (x ∷ xs) (suc n) h = rw (h.0) (ap (λ l. x ∷ l) (put_for_place t new xs n h.1))

  -- nothing is taken out where nothing of those stands
  pub without_none : (gone : List Text) (xs : List X) → ((z : Text) → has_id z (ids key xs) ≡ true → has_id z gone ≡ false) → without key gone xs ≡ xs
  without_none gone [] h = refl
  without_none gone (x ∷ xs) h =
      let s : has_id (key x) (ids key (x ∷ xs)) ≡ true = grind (arith, same-self (key x)) in
      rw (h (key x) s) (ap (λ l. x ∷ l) (without_none gone xs (λ z i. h z (grind (arith, i)))))

  pub without_absent : (t : Text) (xs : List X) → has_id t (ids key xs) ≡ false → without key (t ∷ []) xs ≡ xs
  without_absent t xs h = without_none (t ∷ []) xs (λ z i. by z (same_id z t) refl i)
    where
      by : (z : Text) (b : Bool) → same_id z t ≡ b → has_id z (ids key xs) ≡ true → b || false ≡ false
      by z true s i = let z_is = same-true z t s in absurd (let j : has_id t (ids key xs) ≡ true = subst (λ u. has_id u (ids key xs) ≡ true) z_is i in cc)
      by z false s i = refl

  pub remove_place : (t : Text) (xs : List X) (n : ℕ) → IsDistinct (ids key xs) → Stands t xs n → remove xs n ≡ without key (t ∷ []) xs
  remove_place t [] n d h = absurd h
  remove_place t (x ∷ xs) zero d h =
      let x_is = same-true t (key x) h in
      let one : has_id (key x) (t ∷ []) ≡ true = rw (x_is, same-self (key x)) refl in
      rw one (sym (without_absent t xs (subst (λ u. has_id u (ids key xs) ≡ false) (sym x_is) d.0)))
  remove_place t (x ∷ xs) (suc n) d h =
      let other : has_id (key x) (t ∷ []) ≡ false = rw (same-sym (key x) t, h.0) refl in
      rw other (ap (λ l. x ∷ l) (remove_place t xs n d.1 h.1))

  pub put_for_absent : (t : Text) (new xs : List X) → has_id t (ids key xs) ≡ false → put_for key t new xs ≡ xs
  put_for_absent t new [] h = refl
  put_for_absent t new (x ∷ xs) h = go (same_id t (key x)) (put_for_absent t new xs) h
    where
      go : (b : Bool) → (has_id t (ids key xs) ≡ false → put_for key t new xs ≡ xs) → b || has_id t (ids key xs) ≡ false → (if b then new ++ xs else x ∷ put_for key t new xs) ≡ x ∷ xs
      go true r h = absurd (cc)
      go false r h = ap (λ l. x ∷ l) (r h)
