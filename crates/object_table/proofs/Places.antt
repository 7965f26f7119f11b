-- The place of an objID, and what stands there.
use Rattle.std.proofs.Common.{◌≡◌, ℕ, zero, suc, ◌+◌, ◌<◌, List, [], ◌∷◌, ◌++◌, length, slice_get, slice_set, get_or, remove, take, codes, Bool, true, false, ◌||◌, cond, Some, None, arith, refl, if◌then◌else◌, sym, ap, ◌∙◌, subst}
use Rattle.std.proofs.lemmas.List.Quantifiers.{position-Some, all_pairs_push}
use Rattle.std.proofs.lemmas.Iterator.Adapters.{position_from-zero}
use Rattle.std.proofs.lemmas.List.{map-append, take-map, take_more}
use Rattle.running_order.proofs.Ids.{AreDistinct-take}
use Rattle.std.specs.List.{position_from}
use Rattle.std.specs.Option.{is_some}
use Rattle.std.specs.Str.{bytes_eq}
use Rattle.mos_fields.specs.Characters.{are_allowed, units_of}
use Rattle.mos_fields.proofs.OrderLemmas.{same_by_units}
use Rattle.mos_edits.specs.Texts.{Text, same_id, has_id}
use Rattle.mos_edits.proofs.Identifiers.{same-true, same-self}
use Rattle.mos_values.specs.Distinct.{AreDistinct}
use Rattle.mos_values.specs.declared.mos_obj.MosObj.{MosObj}
use Rattle.running_order.specs.Places.{place_of}
use Rattle.object_table.specs.Objects.{StandsAt, object_ids, put_object, without_object, find_object}

stands-by : (t : Text) (xs : List MosObj) (n : ℕ) (d : Text) → n < length (object_ids xs) → same_id t (get_or (object_ids xs) n d) ≡ true → ((k : ℕ) → k < n → same_id t (get_or (object_ids xs) k d) ≡ false) → StandsAt t xs n
stands-by t [] n d lt at before = absurd (omega (arith, lt))
stands-by t (x ∷ xs) zero d lt at before = at
stands-by t (x ∷ xs) (suc n) d lt at before = (before 0 (omega arith), stands-by t xs n d (omega (arith, lt)) at (λ k l. before (suc k) (omega (arith, l))))

pub place-stands : (t : Text) (xs : List MosObj) (n : ℕ) → place_of t (object_ids xs) ≡ Some n → StandsAt t xs n
place-stands t xs n h = let p = position-Some (same_id t) (object_ids xs) n t h in stands-by t xs n t p.0 p.1 p.2

place-from : (t : Text) (xs : List Text) (k : ℕ) → is_some (position_from (same_id t) k xs) ≡ has_id t xs
place-from t [] k = refl
place-from t (x ∷ xs) k = go (same_id t x) (place-from t xs (k + 1))
  where
    go : (b : Bool) → is_some (position_from (same_id t) (k + 1) xs) ≡ has_id t xs → is_some (cond b (Some k) (position_from (same_id t) (k + 1) xs)) ≡ b || has_id t xs
    go true h = refl
    go false h = h

pub place-none : (t : Text) (xs : List Text) → place_of t xs ≡ None → has_id t xs ≡ false
place-none t xs h = sym (ap (λ o. is_some o) (position_from-zero (same_id t) xs) ∙ place-from t xs 0) ∙ ap (λ o. is_some o) h

pub stands-within : (t : Text) (xs : List MosObj) (n : ℕ) → StandsAt t xs n → n < length xs
stands-within t [] n h = absurd h
stands-within t (x ∷ xs) zero h = omega arith
stands-within t (x ∷ xs) (suc n) h = let r = stands-within t xs n h.1 in omega (arith, r)

-- what is found there
pub stands-find : (t : Text) (xs : List MosObj) (n : ℕ) → StandsAt t xs n → find_object t xs ≡ slice_get xs n
stands-find t [] n h = absurd h
stands-find t (x ∷ xs) zero h = rw h refl
stands-find t (x ∷ xs) (suc n) h = rw (h.0) (stands-find t xs n h.1)

pub find-none : (t : Text) (xs : List MosObj) → has_id t (object_ids xs) ≡ false → find_object t xs ≡ None
find-none t [] h = refl
find-none t (x ∷ xs) h = go (same_id t x.id) (find-none t xs) h
  where
    go : (b : Bool) → (has_id t (object_ids xs) ≡ false → find_object t xs ≡ None) → b || has_id t (object_ids xs) ≡ false → (if b then Some x else find_object t xs) ≡ None
    go true r h = absurd (cc)
    go false r h = r h

-- what is put there, and taken out
pub put-at : (o : MosObj) (xs : List MosObj) (n : ℕ) → StandsAt o.id xs n → slice_set xs n o ≡ put_object o xs
put-at o [] n h = absurd h
put-at o (x ∷ xs) zero h = rw h refl
put-at o (x ∷ xs) (suc n) h = rw (h.0) (ap (λ l. x ∷ l) (put-at o xs n h.1))

pub put-last : (o : MosObj) (xs : List MosObj) → has_id o.id (object_ids xs) ≡ false → xs ++ o ∷ [] ≡ put_object o xs
put-last o [] h = refl
put-last o (x ∷ xs) h = go (same_id o.id x.id) (put-last o xs) h
  where
    go : (b : Bool) → (has_id o.id (object_ids xs) ≡ false → xs ++ o ∷ [] ≡ put_object o xs) → b || has_id o.id (object_ids xs) ≡ false → x ∷ (xs ++ o ∷ []) ≡ (if b then o ∷ xs else x ∷ put_object o xs)
    go true r h = absurd (cc)
    go false r h = ap (λ l. x ∷ l) (r h)

pub without-at : (t : Text) (xs : List MosObj) (n : ℕ) → StandsAt t xs n → remove xs n ≡ without_object t xs
without-at t [] n h = absurd h
without-at t (x ∷ xs) zero h = rw h refl
without-at t (x ∷ xs) (suc n) h = rw (h.0) (ap (λ l. x ∷ l) (without-at t xs n h.1))

pub without-none : (t : Text) (xs : List MosObj) → has_id t (object_ids xs) ≡ false → xs ≡ without_object t xs
without-none t [] h = refl
without-none t (x ∷ xs) h = go (same_id t x.id) (without-none t xs) h
  where
    go : (b : Bool) → (has_id t (object_ids xs) ≡ false → xs ≡ without_object t xs) → b || has_id t (object_ids xs) ≡ false → x ∷ xs ≡ (if b then xs else x ∷ without_object t xs)
    go true r h = absurd (cc)
    go false r h = ap (λ l. x ∷ l) (r h)

-- the objIDs stay where an object is put over one of its objID
pub ids-set : (o : MosObj) (xs : List MosObj) (n : ℕ) → StandsAt o.id xs n → object_ids (slice_set xs n o) ≡ object_ids xs
ids-set o [] n h = absurd h
ids-set o (x ∷ xs) zero h = ap (λ (t : Text). t ∷ object_ids xs) (same-true o.id x.id h)
ids-set o (x ∷ xs) (suc n) h = ap (λ l. x.id ∷ l) (ids-set o xs n h.1)

-- a new objID leaves them distinct
apart : (t : Text) (xs : List Text) (k : ℕ) (d : Text) → has_id t xs ≡ false → k < length xs → get_or xs k d ≡ t → ⊥
apart t [] k d h lt e = absurd (omega (arith, lt))
apart t (x ∷ xs) zero d h lt e =
    let s : same_id t x ≡ true = subst (λ (y : Text). same_id t y ≡ true) (sym e) (same-self t) in
    let f : true || has_id t xs ≡ false = subst (λ (b : Bool). b || has_id t xs ≡ false) s h in
    absurd (cc)
apart t (x ∷ xs) (suc k) d h lt e = go (same_id t x) h (λ f. apart t xs k d f (omega (arith, lt)) e)
  where
    go : (b : Bool) → b || has_id t xs ≡ false → (has_id t xs ≡ false → ⊥) → ⊥
    go true f r = absurd (cc)
    go false f r = r f

pub distinct-more : (t : Text) (xs : List Text) → AreDistinct xs → has_id t xs ≡ false → AreDistinct (xs ++ t ∷ [])
distinct-more t xs d h = all_pairs_push (λ a b. a ≡ b → ⊥) xs t d (λ k e lt. apart t xs k e h lt)

-- the status is compared by its code units
pub deleted-text : (t : Text) → are_allowed t ≡ true → bytes_eq (units_of t) (units_of (codes "DELETED")) ≡ same_id t (codes "DELETED")
unfolding same_id
deleted-text t a = same_by_units t (codes "DELETED") a refl

-- one object more
pub ids-more : (xs : List MosObj) (k : ℕ) (x : MosObj) → k < length xs → x ≡ get_or xs k x → object_ids (take k xs) ++ x.id ∷ [] ≡ object_ids (take (k + 1) xs)
ids-more xs k x lt at =
    sym (ap object_ids (take_more xs k x lt ∙ ap (λ y. take k xs ++ y ∷ []) (sym at)) ∙ map-append (λ (o : MosObj). o.id) (take k xs) (x ∷ []))

pub distinct-front : (xs : List MosObj) (n : ℕ) → AreDistinct (object_ids xs) → AreDistinct (object_ids (take n xs))
distinct-front xs n d = subst AreDistinct (take-map (λ (o : MosObj). o.id) n xs) (AreDistinct-take n (object_ids xs) d)
