-- One element moved from a place to a place, and two that are exchanged.
use Rattle.std.proofs.Common.{◌≡◌, ℕ, zero, suc, ◌+◌, ◌<◌, ◌≤◌, List, [], ◌∷◌, ◌++◌, length, slice_get, get_or, set, remove, true, false, Option, Some, None, arith, refl, sym, ap, ◌∙◌, subst}
use Rattle.std.proofs.lemmas.List.{take_all, drop_all}
use Rattle.std.proofs.lemmas.List.Edits.{length-remove}
use Rattle.std.specs.List.{swap}
use Rattle.indexmap.specs.IndexMap.{move_index}
use Rattle.mos_edits.specs.Texts.{Text, same_id, has_id}
use Rattle.mos_edits.specs.KeyedLists.{ids, find, with_found, without, put_at, exchange, exchange_found, exchanged}
use Rattle.running_order.specs.Places.{put_in}
use Rattle.mos_edits.proofs.Identifiers.{same-true}
use Rattle.mos_edits.proofs.Distinct.{IsDistinct}
use Rattle.element_action.proofs.PlaceLemmas.{Stands, find_none, stands_within, stands_find, put_at_place, remove_place}

module _ {X : Type 0} (key : X → Text) where
  -- what stood behind the removed one stands one place before, and what stood before it stands there still
  stands_behind : (t : Text) (xs : List X) (from q : ℕ) → Stands key t xs (suc q) → from ≤ q → Stands key t (remove xs from) q
  stands_behind t [] from q h le = absurd h
  stands_behind t (x ∷ xs) zero q h le = h.1
  stands_behind t (x ∷ xs) (suc f) zero h le = absurd (omega (arith, le))
  stands_behind t (x ∷ xs) (suc f) (suc q) h le = (h.0, stands_behind t xs f q h.1 (omega (arith, le)))

  stands_ahead : (t : Text) (xs : List X) (from p : ℕ) → Stands key t xs p → p < from → Stands key t (remove xs from) p
  stands_ahead t [] from p h lt = absurd h
  stands_ahead t (x ∷ xs) zero p h lt = absurd (omega (arith, lt))
  stands_ahead t (x ∷ xs) (suc f) zero h lt = h
  stands_ahead t (x ∷ xs) (suc f) (suc p) h lt = (h.0, stands_ahead t xs f p h.1 (omega (arith, lt)))

  pub stands_apart : (s t : Text) (xs : List X) (n : ℕ) → Stands key s xs n → Stands key t xs n → same_id t s ≡ true
  stands_apart s t [] n h i = absurd h
  stands_apart s t (x ∷ xs) zero h i =
      let s_is = same-true s (key x) h in
      subst (λ u. same_id t u ≡ true) (sym s_is) i
  stands_apart s t (x ∷ xs) (suc n) h i = stands_apart s t xs n h.1 i.1

  pub got_one : (xs : List X) (n : ℕ) → n < length xs → (x : X) × (slice_get xs n ≡ Some x)
  got_one [] n lt = absurd (omega (arith, lt))
  got_one (x ∷ xs) zero lt = (x, refl)
  got_one (x ∷ xs) (suc n) lt = got_one xs n (omega (arith, lt))

  -- a move is a removal and putting in what was found
  move_is : (s : Text) (xs : List X) (from to : ℕ) → IsDistinct (ids key xs) → Stands key s xs from
      → move_index xs from to ≡ put_in (without key (s ∷ []) xs) to (with_found (find key s xs) [])
  move_is s xs from to d h =
      let g = got_one xs from (stands_within key s xs from h) in
      rw (g.1, stands_find key s xs from h, g.1, remove_place key s xs from d h) refl

  -- to where the target will stand
  pub move_before : (t s : Text) (xs : List X) (from p : ℕ) → IsDistinct (ids key xs) → Stands key s xs from → Stands key t xs p → p < from
      → move_index xs from p ≡ put_at key t (with_found (find key s xs) []) (without key (s ∷ []) xs)
  move_before t s xs from p d h i lt =
      let there = subst (λ l. Stands key t l p) (remove_place key s xs from d h) (stands_ahead t xs from p i lt) in
      move_is s xs from p d h ∙ sym (put_at_place key t (with_found (find key s xs) []) (without key (s ∷ []) xs) p there)

  pub move_behind : (t s : Text) (xs : List X) (from q : ℕ) → IsDistinct (ids key xs) → Stands key s xs from → Stands key t xs (suc q) → from ≤ q
      → move_index xs from q ≡ put_at key t (with_found (find key s xs) []) (without key (s ∷ []) xs)
  move_behind t s xs from q d h i le =
      let there = subst (λ l. Stands key t l q) (remove_place key s xs from d h) (stands_behind t xs from q i le) in
      move_is s xs from q d h ∙ sym (put_at_place key t (with_found (find key s xs) []) (without key (s ∷ []) xs) q there)

  -- to the end
  pub move_last : (s : Text) (xs : List X) (from to : ℕ) → IsDistinct (ids key xs) → Stands key s xs from → to + 1 ≡ length xs
      → move_index xs from to ≡ without key (s ∷ []) xs ++ with_found (find key s xs) []
  move_last s xs from to d h e =
      let ws = without key (s ∷ []) xs in
      let fs = with_found (find key s xs) [] in
      let long = length-remove xs from (stands_within key s xs from h) in
      let all : length ws ≤ to = subst (λ l. length l ≤ to) (remove_place key s xs from d h) (omega (arith, long, e)) in
      move_is s xs from to d h ∙ (λ j. take_all to ws all j ++ (fs ++ drop_all to ws all j)) ∙ ap (λ l. ws ++ l) (end fs)
    where
      end : (fs : List X) → fs ++ [] ≡ fs
      end [] = refl
      end (f ∷ fs) = ap (λ l. f ∷ l) (end fs)

  -- exchanges
  exchange_none : (a b : Text) (x y : X) (xs : List X) → has_id a (ids key xs) ≡ false → has_id b (ids key xs) ≡ false → exchange key a b x y xs ≡ xs
  exchange_none a b x y [] h i = refl
  exchange_none a b x y (z ∷ zs) h i =
      let one : same_id a (key z) ≡ false = grind (arith, h) in
      let two : same_id b (key z) ≡ false = grind (arith, i) in
      rw (one, two) (ap (λ l. z ∷ l) (exchange_none a b x y zs (grind (arith, h)) (grind (arith, i))))

  exchange_second : (a b : Text) (x y : X) (xs : List X) (j : ℕ) → IsDistinct (ids key xs) → has_id a (ids key xs) ≡ false → Stands key b xs j → exchange key a b x y xs ≡ set xs j x
  exchange_second a b x y [] j d h i = absurd i
  exchange_second a b x y (z ∷ zs) zero d h i =
      let one : same_id a (key z) ≡ false = grind (arith, h) in
      let b_is = same-true b (key z) i in
      rw (one, i) (ap (λ l. x ∷ l) (exchange_none a b x y zs (grind (arith, h)) (subst (λ u. has_id u (ids key zs) ≡ false) (sym b_is) d.0)))
  exchange_second a b x y (z ∷ zs) (suc j) d h i =
      let one : same_id a (key z) ≡ false = grind (arith, h) in
      rw (one, i.0) (ap (λ l. z ∷ l) (exchange_second a b x y zs j d.1 (grind (arith, h)) i.1))

  exchange_first : (a b : Text) (x y : X) (xs : List X) (i : ℕ) → IsDistinct (ids key xs) → has_id b (ids key xs) ≡ false → Stands key a xs i → exchange key a b x y xs ≡ set xs i y
  exchange_first a b x y [] i d h s = absurd s
  exchange_first a b x y (z ∷ zs) zero d h s =
      let a_is = same-true a (key z) s in
      rw s (ap (λ l. y ∷ l) (exchange_none a b x y zs (subst (λ u. has_id u (ids key zs) ≡ false) (sym a_is) d.0) (grind (arith, h))))
  exchange_first a b x y (z ∷ zs) (suc i) d h s =
      let two : same_id b (key z) ≡ false = grind (arith, h) in
      rw (s.0, two) (ap (λ l. z ∷ l) (exchange_first a b x y zs i d.1 (grind (arith, h)) s.1))

  exchange_places : (a b : Text) (x y : X) (xs : List X) (i j : ℕ) → IsDistinct (ids key xs) → Stands key a xs i → Stands key b xs j → (a ≡ b → x ≡ y)
      → exchange key a b x y xs ≡ set (set xs i y) j x
  exchange_places a b x y [] i j d s t g = absurd s
  exchange_places a b x y (z ∷ zs) zero zero d s t g =
      let a_is = same-true a (key z) s in
      let b_is = same-true b (key z) t in
      rw (s, exchange_none a b x y zs (subst (λ u. has_id u (ids key zs) ≡ false) (sym a_is) d.0) (subst (λ u. has_id u (ids key zs) ≡ false) (sym b_is) d.0)) (ap (λ v. v ∷ zs) (sym (g (a_is ∙ sym b_is))))
  exchange_places a b x y (z ∷ zs) zero (suc j) d s t g =
      let a_is = same-true a (key z) s in
      rw s (ap (λ l. y ∷ l) (exchange_second a b x y zs j d.1 (subst (λ u. has_id u (ids key zs) ≡ false) (sym a_is) d.0) t.1))
  exchange_places a b x y (z ∷ zs) (suc i) zero d s t g =
      let b_is = same-true b (key z) t in
      rw (s.0, t) (ap (λ l. x ∷ l) (exchange_first a b x y zs i d.1 (subst (λ u. has_id u (ids key zs) ≡ false) (sym b_is) d.0) s.1))
  exchange_places a b x y (z ∷ zs) (suc i) (suc j) d s t g = rw (s.0, t.0) (ap (λ l. z ∷ l) (exchange_places a b x y zs i j d.1 s.1 t.1 g))

  pub got_or : (xs : List X) (i : ℕ) (x d : X) → slice_get xs i ≡ Some x → get_or xs i d ≡ x
  got_or [] i x d h = absurd (cc)
  got_or (y ∷ ys) zero x d h = cc
  got_or (y ∷ ys) (suc i) x d h = got_or ys i x d h

  pub swap_sets : (xs : List X) (i j : ℕ) (x y : X) → slice_get xs i ≡ Some x → slice_get xs j ≡ Some y → swap xs i j ≡ set (set xs i y) j x
  swap_sets [] i j x y h g = refl
  swap_sets (d ∷ ds) i j x y h g = λ k. set (set (d ∷ ds) i (got_or (d ∷ ds) j y d g k)) j (got_or (d ∷ ds) i x d h k)

  pub exchange_is_swap : (a b : Text) (xs : List X) (i j : ℕ) → IsDistinct (ids key xs) → Stands key a xs i → Stands key b xs j → exchanged key a b xs ≡ swap xs i j
  exchange_is_swap a b xs i j d s t =
      let x = got_one xs i (stands_within key a xs i s) in
      let y = got_one xs j (stands_within key b xs j t) in
      let fx : find key a xs ≡ Some x.0 = stands_find key a xs i s ∙ x.1 in
      let fy : find key b xs ≡ Some y.0 = stands_find key b xs j t ∙ y.1 in
      rw (fx, fy) (exchange_places a b x.0 y.0 xs i j d s t (λ e. one x.0 y.0 (sym fx ∙ ap (λ u. find key u xs) e ∙ fy)) ∙ sym (swap_sets xs i j x.0 y.0 x.1 y.1))
    where
      one : (x y : X) → Some x ≡ Some y → x ≡ y
      one x y e = cc

  -- an exchange with what isn't there
  pub exchange_no_first : (a b : Text) (xs : List X) → has_id a (ids key xs) ≡ false → exchanged key a b xs ≡ xs
  exchange_no_first a b xs h = rw (find_none key a xs h) refl

  pub exchange_no_second : (a b : Text) (xs : List X) → has_id b (ids key xs) ≡ false → exchanged key a b xs ≡ xs
  exchange_no_second a b xs h = rw (find_none key b xs h) (go (find key a xs))
    where
      go : (o : Option X) → exchange_found key a b o None xs ≡ xs
      go None = refl
      go (Some x) = refl
