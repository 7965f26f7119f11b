-- A list whose last part is put before the middle one, by taking both out and putting them back at the end.
use Rattle.std.proofs.Common.{◌≡◌, ℕ, ◌-◌, ◌≤◌, Bool, List, [], ◌∷◌, ◌++◌, length, take, drop, sym, ap, subst, ◌∙◌, append_assoc, length-drop, length-take-le, IsPermutation}
use Rattle.std.proofs.lemmas.List.{map-append, take-append-drop}
use Rattle.std.proofs.lemmas.List.Sorted.{IsPermutation-append_comm, IsPermutation-append_right, IsPermutation-map}
use Rattle.std.specs.Cmp.{IsEquivalence}
use Rattle.std.specs.List.{IsDistinct, AllByRecursion}
use Rattle.std.specs.Map.{keys_of}
use Rattle.indexmap.specs.IndexMap.{insert_all as map_all}
use Rattle.indexmap.specs.IndexSet.{insert_all as set_all}
use Rattle.indexmap.proofs.MapLemmas.{distinct_permutation}
use Rattle.indexmap.proofs.SetLemmas.{set_all_distinct}
use Rattle.running_order.specs.Places.{put_in}
use Rattle.running_order.proofs.Entries.{map_all_distinct}

all_front : {K : Type 0} (P : K → Type 0) (xs ys : List K) → AllByRecursion P (xs ++ ys) → AllByRecursion P xs
all_front P [] ys h = tt
all_front P (x ∷ xs) ys h = (h.0, all_front P xs ys h.1)

distinct_front : {K : Type 0} (eq : K → K → Bool) (xs ys : List K) → IsDistinct eq (xs ++ ys) → IsDistinct eq xs
unfolding IsDistinct
distinct_front eq [] ys h = tt
distinct_front eq (x ∷ xs) ys h = (all_front (λ y. eq x y ≡ _) xs ys h.0, distinct_front eq xs ys h.1)

module _ {X : Type 0} (all : List X) (was at : ℕ) where
  abbrev front : List X
  front = take at (take was all)

  abbrev middle : List X
  middle = drop at (take was all)

  abbrev last : List X
  last = drop was all

  turned : IsPermutation all ((front ++ last) ++ middle)
  turned =
      let whole : front ++ (middle ++ last) ≡ all = sym (append_assoc front middle last) ∙ ap (λ l. l ++ last) (take-append-drop at (take was all)) ∙ take-append-drop was all in
      subst (λ l. IsPermutation l ((front ++ last) ++ middle)) whole
      (subst (λ l. IsPermutation (front ++ (middle ++ last)) l) (sym (append_assoc front last middle)) (IsPermutation-append_right front (middle ++ last) (last ++ middle) (IsPermutation-append_comm middle last)))

module _ {K : Type 0} {eq : K → K → Bool} (o : IsEquivalence eq) (all : List K) (was at : ℕ) (d : IsDistinct eq all) where
  pub set_turned : set_all eq (set_all eq (front all was at) (last all was at)) (middle all was at) ≡ put_in (take was all) at (drop was all)
  set_turned =
      let a = front all was at in
      let b = middle all was at in
      let n = last all was at in
      let other : IsDistinct eq ((a ++ n) ++ b) = distinct_permutation o all ((a ++ n) ++ b) (turned all was at) d in
      ap (λ l. set_all eq l b) (set_all_distinct o a n (distinct_front eq (a ++ n) b other)) ∙ set_all_distinct o (a ++ n) b other ∙ append_assoc a n b

  pub set_back : set_all eq (take was all) (drop was all) ≡ all
  set_back =
      let whole = take-append-drop was all in
      set_all_distinct o (take was all) (drop was all) (subst (λ l. IsDistinct eq l) (sym whole) d) ∙ whole

module _ {K X : Type 0} {eq : K → K → Bool} (o : IsEquivalence eq) (all : List (K × X)) (was at : ℕ) (d : IsDistinct eq (keys_of all)) where
  pub map_turned : map_all eq (map_all eq (front all was at) (last all was at)) (middle all was at) ≡ put_in (take was all) at (drop was all)
  map_turned =
      let a = front all was at in
      let b = middle all was at in
      let n = last all was at in
      let other : IsDistinct eq (keys_of ((a ++ n) ++ b)) = distinct_permutation o (keys_of all) (keys_of ((a ++ n) ++ b)) (IsPermutation-map (λ (e : K × X). e.0) all ((a ++ n) ++ b) (turned all was at)) d in
      let less : IsDistinct eq (keys_of (a ++ n)) = distinct_front eq (keys_of (a ++ n)) (keys_of b) (subst (λ l. IsDistinct eq l) (map-append (λ (e : K × X). e.0) (a ++ n) b) other) in
      ap (λ l. map_all eq l b) (map_all_distinct o a n less) ∙ map_all_distinct o (a ++ n) b other ∙ append_assoc a n b

  pub map_back : map_all eq (take was all) (drop was all) ≡ all
  map_back =
      let whole = take-append-drop was all in
      map_all_distinct o (take was all) (drop was all) (subst (λ l. IsDistinct eq (keys_of l)) (sym whole) d) ∙ whole

-- what the calls made of the table, one after another
module _ {K : Type 0} {eq : K → K → Bool} (o : IsEquivalence eq) (all s1 behind : List K) (was at : ℕ) (d : IsDistinct eq all) (kept : s1 ≡ take was all) (tail : behind ≡ drop was all) where
  pub set_is_turned : (s2 s3 s4 between : List K) → s2 ≡ take at s1 → between ≡ drop at s1 → s3 ≡ set_all eq s2 behind → s4 ≡ set_all eq s3 between → s4 ≡ put_in (take was all) at (drop was all)
  set_is_turned s2 s3 s4 between a b e f =
      f ∙ ap (λ l. set_all eq l between) e ∙ (λ j. set_all eq (set_all eq (a j) (tail j)) (b j)) ∙ (λ j. set_all eq (set_all eq (take at (kept j)) (drop was all)) (drop at (kept j))) ∙ set_turned o all was at d

  pub set_is_back : (s2 s3 : List K) → s2 ≡ s1 → s3 ≡ set_all eq s2 behind → s3 ≡ all
  set_is_back s2 s3 a e = e ∙ ap (λ l. set_all eq l behind) a ∙ (λ j. set_all eq (kept j) (tail j)) ∙ set_back o all was at d

module _ {K X : Type 0} {eq : K → K → Bool} (o : IsEquivalence eq) (all s1 behind : List (K × X)) (was at : ℕ) (d : IsDistinct eq (keys_of all)) (kept : s1 ≡ take was all) (tail : behind ≡ drop was all) where
  pub map_is_turned : (s2 s3 s4 between : List (K × X)) → s2 ≡ take at s1 → between ≡ drop at s1 → s3 ≡ map_all eq s2 behind → s4 ≡ map_all eq s3 between → s4 ≡ put_in (take was all) at (drop was all)
  map_is_turned s2 s3 s4 between a b e f =
      f ∙ ap (λ l. map_all eq l between) e ∙ (λ j. map_all eq (map_all eq (a j) (tail j)) (b j)) ∙ (λ j. map_all eq (map_all eq (take at (kept j)) (drop was all)) (drop at (kept j))) ∙ map_turned o all was at d

  pub map_is_back : (s2 s3 : List (K × X)) → s2 ≡ s1 → s3 ≡ map_all eq s2 behind → s3 ≡ all
  map_is_back s2 s3 a e = e ∙ ap (λ l. map_all eq l behind) a ∙ (λ j. map_all eq (kept j) (tail j)) ∙ map_back o all was at d

-- how many stand behind, and between
pub long_behind : {X : Type 0} (all behind : List X) (was : ℕ) → behind ≡ drop was all → length behind ≡ length all - was
long_behind all behind was e = ap length e ∙ length-drop was all

pub long_between : {X : Type 0} (all s1 between : List X) (was at : ℕ) → was ≤ length all → s1 ≡ take was all → between ≡ drop at s1 → length between ≡ was - at
long_between all s1 between was at le k e = ap length e ∙ length-drop at s1 ∙ ap (λ n. n - at) (ap length k ∙ length-take-le was all le)
