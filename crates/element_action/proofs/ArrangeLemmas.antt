-- A list that is brought into another order, place by place.
use Rattle.std.proofs.Common.{◌≡◌, ℕ, zero, suc, ◌+◌, ◌<◌, ◌≤◌, List, [], ◌∷◌, length, slice_get, get_or, set, take, Bool, true, false, Option, Some, None, arith, refl, sym, ap, ◌∙◌, subst, Contains}
use Rattle.std.proofs.lemmas.List.{take_all, length-map}
use Rattle.std.proofs.lemmas.List.Edits.{length-swap}
use Rattle.std.proofs.lemmas.List.Sorted.{IsPermutation-sym, IsPermutation-trans, IsPermutation-swap, IsPermutation-map, Contains-permutation, length_permutation}
use Rattle.std.proofs.lemmas.Map.Keys.{IsDistinct-IsPermutation}
use Rattle.std.proofs.lemmas.Map.Made.{AllPairs-from_IsDistinct, IsDistinct-from_AllPairs}
use Rattle.std.specs.List.{swap}
use Rattle.std.specs.List.Sorted.{IsPermutation}
use Rattle.std.specs.Option.{option_map_or}
use Rattle.mos_edits.specs.Texts.{Text, same_id, has_id}
use Rattle.mos_edits.specs.KeyedLists.{ids}
use Rattle.mos_edits.proofs.Identifiers.{same-Decides, same-true, same-self, same-sym}
use Rattle.mos_edits.proofs.Distinct.{IsDistinct, is-distinct}
use Rattle.mos_values.specs.Distinct.{AreDistinct}
use Rattle.running_order.specs.Places.{place_of}
use Rattle.element_action.specs.Targets.{brought}
use Rattle.element_action.proofs.PlaceLemmas.{Stands, place_stands, place_none, stands_within, stands_find}
use Rattle.element_action.proofs.StepLemmas.{got_one, got_or, swap_sets}

-- identifiers that change places stay distinct
still_distinct : (xs ys : List Text) → IsPermutation xs ys → AreDistinct xs → AreDistinct ys
still_distinct xs ys p d = AllPairs-from_IsDistinct same-Decides ys (IsDistinct-IsPermutation same_id same-sym xs ys p (IsDistinct-from_AllPairs same-Decides xs d))

module _ {X : Type 0} (key : X → Text) where
  -- an element at a place, by its identifier
  has_at : (y : X) (xs : List X) (k : ℕ) → k < length xs → get_or xs k y ≡ y → has_id (key y) (ids key xs) ≡ true
  has_at y [] k lt at = absurd (omega (arith, lt))
  has_at y (x ∷ xs) zero lt at = let s : same_id (key y) (key x) ≡ true = subst (λ z. same_id (key y) (key z) ≡ true) (sym at) (same-self (key y)) in grind (arith, s)
  has_at y (x ∷ xs) (suc k) lt at = let r = has_at y xs k (omega (arith, lt)) at in grind (arith, r)

  stands_at : (y : X) (xs : List X) (k : ℕ) → k < length xs → get_or xs k y ≡ y → IsDistinct (ids key xs) → Stands key (key y) xs k
  stands_at y [] k lt at d = absurd (omega (arith, lt))
  stands_at y (x ∷ xs) zero lt at d = subst (λ z. same_id (key y) (key z) ≡ true) (sym at) (same-self (key y))
  stands_at y (x ∷ xs) (suc k) lt at d =
      let le : k < length xs = omega (arith, lt) in
      (by (same_id (key y) (key x)) refl (has_at y xs k le at), stands_at y xs k le at d.1)
    where
      by : (b : Bool) → same_id (key y) (key x) ≡ b → has_id (key y) (ids key xs) ≡ true → b ≡ false
      by true e i = absurd (let g : has_id (key x) (ids key xs) ≡ true = subst (λ u. has_id u (ids key xs) ≡ true) (same-true (key y) (key x) e) i in let n = d.0 in cc)
      by false e i = refl

  got_at : (y : X) (xs : List X) (k : ℕ) → k < length xs → get_or xs k y ≡ y → slice_get xs k ≡ Some y
  got_at y [] k lt at = absurd (omega (arith, lt))
  got_at y (x ∷ xs) zero lt at = ap (λ z. Some z) at
  got_at y (x ∷ xs) (suc k) lt at = got_at y xs k (omega (arith, lt)) at

  -- what its identifier is looked up by is the element
  found_at : (y : X) (xs : List X) (p : ℕ) → Contains xs y → IsDistinct (ids key xs) → Stands key (key y) xs p → slice_get xs p ≡ Some y
  found_at y xs p c d s = sym (stands_find key (key y) xs p s) ∙ stands_find key (key y) xs c.0 (stands_at y xs c.0 c.1 c.2 d) ∙ got_at y xs c.0 c.1 c.2

  has_got : (y : X) (xs : List X) (k : ℕ) → slice_get xs k ≡ Some y → has_id (key y) (ids key xs) ≡ true
  has_got y [] k g = absurd (cc)
  has_got y (x ∷ xs) zero g = let e : x ≡ y = cc in let s : same_id (key y) (key x) ≡ true = subst (λ z. same_id (key y) (key z) ≡ true) (sym e) (same-self (key y)) in grind (arith, s)
  has_got y (x ∷ xs) (suc k) g = let r = has_got y xs k g in grind (arith, r)

  id_at : (xs : List X) (k : ℕ) (y : X) (d : Text) → slice_get xs k ≡ Some y → get_or (ids key xs) k d ≡ key y
  id_at [] k y d g = absurd (cc)
  id_at (x ∷ xs) zero y d g = let e : x ≡ y = cc in ap key e
  id_at (x ∷ xs) (suc k) y d g = id_at xs k y d g

  -- the front stands as it is wanted, and one element more
  placed : (cur ys : List X) (j p : ℕ) (y z : X) → Stands key (key y) cur p → take j cur ≡ take j ys → slice_get ys j ≡ Some y → IsDistinct (ids key ys) → slice_get cur j ≡ Some z → slice_get cur p ≡ Some y
      → take (suc j) (set (set cur j y) p z) ≡ take (suc j) ys
  placed [] ys j p y z s f g d a b = absurd s
  placed (c ∷ cs) [] j p y z s f g d a b = absurd (cc)
  placed (c ∷ cs) (w ∷ ws) zero zero y z s f g d a b = let h : z ≡ w = cc in ap (λ v. v ∷ []) h
  placed (c ∷ cs) (w ∷ ws) zero (suc p) y z s f g d a b = let h : y ≡ w = cc in ap (λ v. v ∷ []) h
  placed (c ∷ cs) (w ∷ ws) (suc j) zero y z s f g d a b =
      let h : c ≡ w = cc in
      let same : key y ≡ key w = same-true (key y) (key c) s ∙ ap key h in
      let there : has_id (key w) (ids key ws) ≡ true = subst (λ u. has_id u (ids key ws) ≡ true) same (has_got y ws j g) in
      absurd (let n = d.0 in cc)
  placed (c ∷ cs) (w ∷ ws) (suc j) (suc p) y z s f g d a b =
      let h : c ≡ w = cc in
      let t : take j cs ≡ take j ws = cc in
      let r = placed cs ws j p y z s.1 t g d.1 a b in
      λ i. h i ∷ r i

  -- one place more is as it is wanted
  pub next : (cur ys : List X) (want : List Text) (j : ℕ) (id : Text) → AreDistinct (ids key cur) → IsPermutation cur ys → take j cur ≡ take j ys → ids key ys ≡ want → j < length want → id ≡ get_or want j id
      → IsPermutation (brought key j id cur) ys × (take (j + 1) (brought key j id cur) ≡ take (j + 1) ys)
  next cur ys want j id d perm f is lt at = go (place_of id (ids key cur)) refl
    where
      long : length ys ≡ length want
      long = sym (length-map ys key) ∙ ap length is

      within : j < length ys
      within = omega (arith, lt, long)

      within_cur : j < length cur
      within_cur = let l = length_permutation cur ys perm in omega (arith, within, l)

      y : (v : X) × (slice_get ys j ≡ Some v)
      y = got_one key ys j within

      z : (v : X) × (slice_get cur j ≡ Some v)
      z = got_one key cur j within_cur

      id_is : id ≡ key y.0
      id_is = at ∙ ap (λ l. get_or l j id) (sym is) ∙ id_at ys j y.0 id y.1

      here : Contains cur y.0
      here = Contains-permutation ys cur y.0 (IsPermutation-sym cur ys perm) (j, within, got_or key ys j y.0 y.0 y.1)

      distinct : IsDistinct (ids key ys)
      distinct = is-distinct (ids key ys) (still_distinct (ids key cur) (ids key ys) (IsPermutation-map key cur ys perm) d)

      go : (o : Option ℕ) → place_of id (ids key cur) ≡ o
          → IsPermutation (option_map_or (λ from. swap cur j from) o cur) ys × (take (j + 1) (option_map_or (λ from. swap cur j from) o cur) ≡ take (j + 1) ys)
      go None e =
          let no : has_id (key y.0) (ids key cur) ≡ false = subst (λ u. has_id u (ids key cur) ≡ false) id_is (place_none key id cur e) in
          let yes = has_at y.0 cur here.0 here.1 here.2 in
          absurd (cc)
      go (Some p) e =
          let s : Stands key (key y.0) cur p = subst (λ u. Stands key u cur p) id_is (place_stands key id cur p e) in
          let b = found_at y.0 cur p here (is-distinct (ids key cur) d) s in
          let one : j + 1 ≡ suc j = omega arith in
          let sets = swap_sets key cur j p z.0 y.0 z.1 b in (
            IsPermutation-trans (swap cur j p) cur ys (IsPermutation-sym cur (swap cur j p) (IsPermutation-swap cur (swap cur j p) j p within_cur (stands_within key (key y.0) cur p s) refl)) perm,
            ap (λ l. take (j + 1) l) sets ∙ ap (λ n. take n (set (set cur j y.0) p z.0)) one ∙ placed cur ys j p y.0 z.0 s f y.1 distinct z.1 b ∙ ap (λ n. take n ys) (sym one),
          )

  -- all stand as they are wanted
  pub arranged : (cur ys : List X) (want : List Text) (j : ℕ) → IsPermutation cur ys → take j cur ≡ take j ys → ids key ys ≡ want → length want ≤ j → cur ≡ ys
  arranged cur ys want j perm f is le =
      let long : length ys ≡ length want = sym (length-map ys key) ∙ ap length is in
      let same = length_permutation cur ys perm in
      sym (take_all j cur (omega (arith, le, long, same))) ∙ f ∙ take_all j ys (omega (arith, le, long))

  -- an exchange leaves as many
  pub brought_long : (j : ℕ) (id : Text) (xs : List X) → length (brought key j id xs) ≡ length xs
  brought_long j id xs = go (place_of id (ids key xs))
    where
      go : (o : Option ℕ) → length (option_map_or (λ from. swap xs j from) o xs) ≡ length xs
      go None = refl
      go (Some p) = length-swap xs j p
