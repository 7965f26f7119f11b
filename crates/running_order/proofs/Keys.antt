-- Code units as keys: they are equal where the identifiers are.
use Rattle.std.proofs.Common.{◌≡◌, ℕ, ◌+◌, List, [], ◌∷◌, ◌++◌, length, map, position, None, Some, take, drop, take_at, drop_at, remove, ◌<◌, false, cond, not, nat_lt, refl, sym, ap, subst, ◌∙◌}
use Rattle.std.proofs.lemmas.List.{length-map, map-append}
use Rattle.std.proofs.lemmas.Slice.Eq.{bytes_eq-Decides}
use Rattle.std.proofs.lemmas.Bool.Decides.{same_from_decides}
use Rattle.std.specs.Str.{bytes_eq}
use Rattle.std.specs.Bool.{Decides}
use Rattle.std.specs.List.{position_or_len, IsDistinct, AllByRecursion}
use Rattle.mos_fields.specs.Characters.{units_of, chars_of}
use Rattle.std.specs.Cmp.Lexicographic.{on_texts_equal}
use Rattle.indexmap.specs.IndexSet.{insert_all as set_all}
use Rattle.indexmap.proofs.SetLemmas.{set_all_distinct}
use Rattle.mos_edits.specs.Texts.{Text, same_id}
use Rattle.running_order.specs.Places.{place_of, put_in, put_over, AreKeys}
use Rattle.mos_values.specs.Distinct.{AreDistinct}
use Rattle.std.proofs.lemmas.Map.Made.{IsDistinct-from_AllPairs, AllPairs-from_IsDistinct}
use Rattle.running_order.proofs.Lists.{map-put_in, map-put_over, put_in-remove}
use Rattle.indexmap.proofs.SetLemmas.{map-remove}

-- two identifiers are one exactly where they are equal
pub same_id-Decides : (a b : Text) → Decides (same_id a b) (a ≡ b)
unfolding same_id
same_id-Decides a b = bytes_eq-Decides a b

-- the test of keys is the test of the texts that they spell
pub same_key : (us vs : List ℕ) → units_of (chars_of us) ≡ us → units_of (chars_of vs) ≡ vs → bytes_eq us vs ≡ same_id (chars_of us) (chars_of vs)
same_key us vs u v =
    let d = same_id-Decides (chars_of us) (chars_of vs) in
    let e = bytes_eq-Decides us vs in
    same_from_decides {P = us ≡ vs} (bytes_eq us vs) (same_id (chars_of us) (chars_of vs)) e (λ h. sym u ∙ ap units_of (d.0 h) ∙ v, λ h. d.1 (ap chars_of h))

pub AreKeys-head : (k : List ℕ) (ks : List (List ℕ)) → AreKeys (k ∷ ks) → units_of (chars_of k) ≡ k
AreKeys-head k ks h = cc

pub AreKeys-tail : (k : List ℕ) (ks : List (List ℕ)) → AreKeys (k ∷ ks) → AreKeys ks
AreKeys-tail k ks h = cc

module _ {K : Type 0} (units : K → List ℕ) (us : List ℕ) (sound : units_of (chars_of us) ≡ us) where
  place_or_len : (ks : List K) → AreKeys (map units ks) → position_or_len (λ k. bytes_eq us (units k)) ks ≡ position_or_len (same_id (chars_of us)) (map (λ k. chars_of (units k)) ks)
  place_or_len [] h = refl
  place_or_len (k ∷ ks) h =
      let one = same_key us (units k) sound (AreKeys-head (units k) (map units ks) h) in
      let rest = place_or_len ks (AreKeys-tail (units k) (map units ks) h) in
      λ j. cond (not (one j)) (1 + rest j) 0

  -- the place of a key is that of the identifier
  pub place_by_key : (ks : List K) → AreKeys (map units ks) → position (λ k. bytes_eq us (units k)) ks ≡ place_of (chars_of us) (map (λ k. chars_of (units k)) ks)
  place_by_key ks h =
      let e = place_or_len ks h in
      λ j. cond (nat_lt (e j) (sym (length-map ks (λ k. chars_of (units k))) j)) (Some (e j)) None

module _ {K : Type 0} (units : K → List ℕ) where
  apart_keys : (k : K) (ks : List K) → units_of (chars_of (units k)) ≡ units k → AreKeys (map units ks) → AllByRecursion (λ y. same_id (chars_of (units k)) y ≡ false) (map (λ l. chars_of (units l)) ks)
      → AllByRecursion (λ l. bytes_eq (units k) (units l) ≡ false) ks
  apart_keys k [] u h d = tt
  apart_keys k (l ∷ ls) u h d = (same_key (units k) (units l) u (AreKeys-head (units l) (map units ls) h) ∙ d.0, apart_keys k ls u (AreKeys-tail (units l) (map units ls) h) d.1)

  apart_ids : (k : K) (ks : List K) → units_of (chars_of (units k)) ≡ units k → AreKeys (map units ks) → AllByRecursion (λ l. bytes_eq (units k) (units l) ≡ false) ks
      → AllByRecursion (λ y. same_id (chars_of (units k)) y ≡ false) (map (λ l. chars_of (units l)) ks)
  apart_ids k [] u h d = tt
  apart_ids k (l ∷ ls) u h d = (sym (same_key (units k) (units l) u (AreKeys-head (units l) (map units ls) h)) ∙ d.0, apart_ids k ls u (AreKeys-tail (units l) (map units ls) h) d.1)

  -- keys of distinct identifiers are distinct
  distinct_by_key : (ks : List K) → AreKeys (map units ks) → IsDistinct same_id (map (λ k. chars_of (units k)) ks) → IsDistinct (λ k l. bytes_eq (units k) (units l)) ks
  unfolding IsDistinct
  distinct_by_key [] h d = tt
  distinct_by_key (k ∷ ks) h d =
      (apart_keys k ks (AreKeys-head (units k) (map units ks) h) (AreKeys-tail (units k) (map units ks) h) d.0, distinct_by_key ks (AreKeys-tail (units k) (map units ks) h) d.1)

  distinct_ids_by_key : (ks : List K) → AreKeys (map units ks) → IsDistinct (λ k l. bytes_eq (units k) (units l)) ks → IsDistinct same_id (map (λ k. chars_of (units k)) ks)
  unfolding IsDistinct
  distinct_ids_by_key [] h d = tt
  distinct_ids_by_key (k ∷ ks) h d =
      (apart_ids k ks (AreKeys-head (units k) (map units ks) h) (AreKeys-tail (units k) (map units ks) h) d.0, distinct_ids_by_key ks (AreKeys-tail (units k) (map units ks) h) d.1)

  -- identifiers of distinct keys are distinct
  pub distinct_ids : (ks : List K) → AreKeys (map units ks) → IsDistinct (λ k l. bytes_eq (units k) (units l)) ks → AreDistinct (map (λ k. chars_of (units k)) ks)
  distinct_ids ks h d = AllPairs-from_IsDistinct same_id-Decides (map (λ k. chars_of (units k)) ks) (distinct_ids_by_key ks h d)

  pub distinct_keys : (ks : List K) → AreKeys (map units ks) → AreDistinct (map (λ k. chars_of (units k)) ks) → IsDistinct (λ k l. bytes_eq (units k) (units l)) ks
  distinct_keys ks h d = distinct_by_key ks h (IsDistinct-from_AllPairs same_id-Decides (map (λ k. chars_of (units k)) ks) d)

pub AreKeys-append : (ks ls : List (List ℕ)) → AreKeys ks → AreKeys ls → AreKeys (ks ++ ls)
AreKeys-append ks ls h g = map-append (λ us. units_of (chars_of us)) ks ls ∙ (λ j. h j ++ g j)

-- the code units of an identifier are a key
pub AreKeys-one : (us : List ℕ) → units_of (chars_of us) ≡ us → AreKeys (us ∷ [])
AreKeys-one us u = ap (λ l. l ∷ []) u

module _ {K : Type 0} (units : K → List ℕ) (ks xs : List K) (known : AreKeys (map units ks)) (more : AreKeys (map units xs)) where
  pub AreKeys-both : AreKeys (map units (ks ++ xs))
  AreKeys-both = subst AreKeys (sym (map-append units ks xs)) (AreKeys-append (map units ks) (map units xs) known more)

  -- keys of identifiers that aren't there go last
  pub appended_keys : AreDistinct (map (λ k. chars_of (units k)) ks ++ map (λ k. chars_of (units k)) xs) → set_all (λ k l. bytes_eq (units k) (units l)) ks xs ≡ ks ++ xs
  appended_keys d = set_all_distinct (on_texts_equal units) ks xs (distinct_keys units (ks ++ xs) AreKeys-both (subst AreDistinct (sym (map-append (λ k. chars_of (units k)) ks xs)) d))

  -- keys that were appended and then moved to a place
  pub inserted_keys : (all after : List K) (was at : ℕ) → AreDistinct (map (λ k. chars_of (units k)) ks ++ map (λ k. chars_of (units k)) xs) → length ks ≡ was
      → all ≡ set_all (λ k l. bytes_eq (units k) (units l)) ks xs → after ≡ put_in (take was all) at (drop was all) → after ≡ put_in ks at xs
  inserted_keys all after was at d long all_is after_is =
      let e : all ≡ ks ++ xs = all_is ∙ appended_keys d in
      after_is ∙ ap (λ l. put_in (take was l) at (drop was l)) e ∙ (λ j. put_in (take_at ks xs was long j) at (drop_at ks xs was long j))

  pub AreKeys-put_in : (at : ℕ) → AreKeys (map units (put_in ks at xs))
  AreKeys-put_in at =
      ap (map (λ us. units_of (chars_of us))) (map-put_in units ks at xs) ∙ map-put_in (λ us. units_of (chars_of us)) (map units ks) at (map units xs)
      ∙ (λ j. put_in (known j) at (more j)) ∙ sym (map-put_in units ks at xs)

-- keys that were put in place of one
module _ {K : Type 0} (units : K → List ℕ) (keys ks xs all after : List K) (was at : ℕ) (known : AreKeys (map units keys)) (more : AreKeys (map units xs))
    (less : ks ≡ remove keys at) (lt : at < length keys) where
  known_less : AreKeys (map units ks)
  known_less =
      ap (λ l. map (λ us. units_of (chars_of us)) (map units l)) less ∙ ap (map (λ us. units_of (chars_of us))) (map-remove units keys at)
      ∙ map-remove (λ us. units_of (chars_of us)) (map units keys) at ∙ ap (λ l. remove l at) known ∙ sym (map-remove units keys at) ∙ ap (map units) (sym less)

  pub replaced_keys : AreDistinct (map (λ k. chars_of (units k)) ks ++ map (λ k. chars_of (units k)) xs) → length ks ≡ was
      → all ≡ set_all (λ k l. bytes_eq (units k) (units l)) ks xs → after ≡ put_in (take was all) at (drop was all) → after ≡ put_over keys at xs
  replaced_keys d long all_is after_is =
      inserted_keys units ks xs known_less more all after was at d long all_is after_is ∙ ap (λ l. put_in l at xs) less ∙ put_in-remove keys at xs lt

  pub appended_less : AreDistinct (map (λ k. chars_of (units k)) ks ++ map (λ k. chars_of (units k)) xs) → all ≡ set_all (λ k l. bytes_eq (units k) (units l)) ks xs → all ≡ ks ++ xs
  appended_less d all_is = all_is ∙ appended_keys units ks xs known_less more d

pub AreKeys-put_over : {K : Type 0} (units : K → List ℕ) (ks xs : List K) (at : ℕ) → AreKeys (map units ks) → AreKeys (map units xs) → AreKeys (map units (put_over ks at xs))
AreKeys-put_over units ks xs at known more =
    ap (map (λ us. units_of (chars_of us))) (map-put_over units ks at xs) ∙ map-put_over (λ us. units_of (chars_of us)) (map units ks) at (map units xs)
    ∙ (λ j. put_over (known j) at (more j)) ∙ sym (map-put_over units ks at xs)
