-- What stands before a target, or at the end.
use Rattle.std.proofs.Common.{◌≡◌, ℕ, zero, suc, ◌-◌, ◌<◌, ◌≤◌, List, [], ◌∷◌, ◌++◌, length, Bool, true, false, Option, Some, None, nat_lt, arith, refl, if◌then◌else◌, sym, ap, ◌∙◌, subst}
use Rattle.std.proofs.lemmas.List.{take_all, drop_all, append-nil}
use Rattle.std.proofs.lemmas.Bool.Decides.{nat_tests}
use Rattle.std.specs.Option.{IfSome}
use Rattle.indexmap.specs.IndexMap.{move_index}
use Rattle.mos_edits.specs.Texts.{Text, has_id}
use Rattle.mos_edits.specs.KeyedLists.{ids, find, with_found, without, put_at, put_before}
use Rattle.running_order.specs.Places.{place_of, put_in}
use Rattle.mos_edits.proofs.Identifiers.{same-true, same-self}
use Rattle.mos_edits.proofs.Distinct.{IsDistinct, has-without_key}
use Rattle.element_action.specs.Targets.{target_place_of, place_in, place_moved, moved}
use Rattle.element_action.proofs.PlaceLemmas.{Stands, place_stands, place_none, stands_within, find_none, without_absent, put_at_place}
use Rattle.element_action.proofs.MoveLemmas.{put_at_absent, put_nothing}
use Rattle.element_action.proofs.StepLemmas.{move_before, move_behind, move_last, stands_apart}

module _ {X : Type 0} (key : X → Text) where
  put_last : (xs new : List X) → put_in xs (length xs) new ≡ xs ++ new
  put_last xs new =
      let le : length xs ≤ length xs = omega arith in
      (λ j. take_all (length xs) xs le j ++ (new ++ drop_all (length xs) xs le j)) ∙ ap (λ l. xs ++ l) (append-nil new)

  -- what is put in at the place of the target stands before it
  pub put_is : (t : Text) (xs new : List X) → put_in xs (place_in (length xs) (target_place_of t (ids key xs))) new ≡ put_before key t new xs
  put_is [] xs new = put_last xs new
  put_is (c ∷ cs) xs new = go (place_of (c ∷ cs) (ids key xs)) refl
    where
      go : (o : Option ℕ) → place_of (c ∷ cs) (ids key xs) ≡ o → put_in xs (place_in (length xs) o) new ≡ put_at key (c ∷ cs) new xs
      go None e = put_last xs new ∙ sym (put_at_absent key (c ∷ cs) new xs (place_none key (c ∷ cs) xs e))
      go (Some n) e = sym (put_at_place key (c ∷ cs) new xs n (place_stands key (c ∷ cs) xs n e))

  pub place_in_within : (t : Text) (xs : List X) → place_in (length xs) (target_place_of t (ids key xs)) ≤ length xs
  place_in_within [] xs = omega arith
  place_in_within (c ∷ cs) xs = go (place_of (c ∷ cs) (ids key xs)) refl
    where
      go : (o : Option ℕ) → place_of (c ∷ cs) (ids key xs) ≡ o → place_in (length xs) o ≤ length xs
      go None e = omega arith
      go (Some n) e = let lt = stands_within key (c ∷ cs) xs n (place_stands key (c ∷ cs) xs n e) in omega (arith, lt)

  pub target_within : (t : Text) (xs : List X) → IfSome (target_place_of t (ids key xs)) (λ p. p < length xs)
  target_within [] xs = tt
  target_within (c ∷ cs) xs = go (place_of (c ∷ cs) (ids key xs)) refl
    where
      go : (o : Option ℕ) → place_of (c ∷ cs) (ids key xs) ≡ o → IfSome o (λ p. p < length xs)
      go None e = tt
      go (Some n) e = stands_within key (c ∷ cs) xs n (place_stands key (c ∷ cs) xs n e)

  pub place_moved_within : (end from : ℕ) (o : Option ℕ) → from < end → IfSome o (λ p. p < end) → place_moved end from o < end
  place_moved_within end from None lt h = omega (arith, lt)
  place_moved_within end from (Some p) lt h = go (nat_lt p from) (nat_lt from p)
    where
      go : (a b : Bool) → (if a then p else (if b then p - 1 else end - 1)) < end
      go true b = h
      go false true = omega (arith, h)
      go false false = omega (arith, lt)

  absent_once : (t s : Text) (xs : List X) → has_id t (ids key xs) ≡ false → has_id t (ids key (without key (s ∷ []) xs)) ≡ false
  absent_once t s xs h = let w = has-without_key key (s ∷ []) xs t in grind (arith, w, h)

  absent_itself : (s : Text) (xs : List X) → has_id s (ids key (without key (s ∷ []) xs)) ≡ false
  absent_itself s xs = let w = has-without_key key (s ∷ []) xs s in grind (arith, w, same-self s)

  to_end : (s : Text) (xs : List X) (from : ℕ) → IsDistinct (ids key xs) → Stands key s xs from → move_index xs from (length xs - 1) ≡ without key (s ∷ []) xs ++ with_found (find key s xs) []
  to_end s xs from d h = let l = stands_within key s xs from h in move_last key s xs from (length xs - 1) d h (omega (arith, l))

  to_target : (t s : Text) (xs : List X) (from : ℕ) → IsDistinct (ids key xs) → Stands key s xs from
      → move_index xs from (place_moved (length xs) from (place_of t (ids key xs))) ≡ put_at key t (with_found (find key s xs) []) (without key (s ∷ []) xs)
  to_target t s xs from d h = go (place_of t (ids key xs)) refl
    where
      absent : has_id t (ids key (without key (s ∷ []) xs)) ≡ false → move_index xs from (length xs - 1) ≡ put_at key t (with_found (find key s xs) []) (without key (s ∷ []) xs)
      absent g = to_end s xs from d h ∙ sym (put_at_absent key t (with_found (find key s xs) []) (without key (s ∷ []) xs) g)

      back : (p : ℕ) → Stands key t xs p → from < p → move_index xs from (p - 1) ≡ put_at key t (with_found (find key s xs) []) (without key (s ∷ []) xs)
      back zero i l = absurd (omega (arith, l))
      back (suc q) i l = ap (λ k. move_index xs from k) (let g : suc q - 1 ≡ q = omega arith in g) ∙ move_behind key t s xs from q d h i (omega (arith, l))

      at : (p : ℕ) → Stands key t xs p → (a b : Bool) → nat_lt p from ≡ a → nat_lt from p ≡ b
          → move_index xs from (if a then p else (if b then p - 1 else length xs - 1)) ≡ put_at key t (with_found (find key s xs) []) (without key (s ∷ []) xs)
      at p there true b e f = move_before key t s xs from p d h there (grind (arith, nat_tests, e))
      at p there false true e f = back p there (grind (arith, nat_tests, f))
      at p there false false e f =
          let same : p ≡ from = grind (arith, nat_tests, e, f) in
          let one = same-true t s (stands_apart key s t xs from h (subst (λ k. Stands key t xs k) same there)) in
          absent (subst (λ u. has_id u (ids key (without key (s ∷ []) xs)) ≡ false) (sym one) (absent_itself s xs))

      go : (o : Option ℕ) → place_of t (ids key xs) ≡ o → move_index xs from (place_moved (length xs) from o) ≡ put_at key t (with_found (find key s xs) []) (without key (s ∷ []) xs)
      go None e = absent (absent_once t s xs (place_none key t xs e))
      go (Some p) e = at p (place_stands key t xs p e) (nat_lt p from) (nat_lt from p) refl refl

  -- what is moved to the place of the target stands before it
  pub moved_is : (t s : Text) (xs : List X) (from : ℕ) → IsDistinct (ids key xs) → Stands key s xs from
      → move_index xs from (place_moved (length xs) from (target_place_of t (ids key xs))) ≡ moved key t s xs
  moved_is [] s xs from d h = to_end s xs from d h
  moved_is (c ∷ cs) s xs from d h = to_target (c ∷ cs) s xs from d h

  -- what isn't there isn't moved
  pub moved_none : (t s : Text) (xs : List X) → has_id s (ids key xs) ≡ false → moved key t s xs ≡ xs
  moved_none t s xs h = (λ j. put_before key t (with_found (find_none key s xs h j) []) (without_absent key s xs h j)) ∙ put_nothing key t xs
