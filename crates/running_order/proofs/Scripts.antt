-- The storyID at a place, whether one stands in a list or behind a place, and rows that nothing or some are taken out of.
use Rattle.std.proofs.Common.{◌≡◌, ℕ, zero, suc, ◌+◌, ◌<◌, List, [], ◌∷◌, length, drop, get_or, slice_get, Bool, true, false, not, ◌||◌, cond, if◌then◌else◌, nat_lt, Some, None, arith, refl, sym, ap, ◌∙◌, subst}
use Rattle.std.proofs.lemmas.Bool.Decides.{nat_tests}
use Rattle.std.proofs.lemmas.List.{drop-map}
use Rattle.std.proofs.lemmas.List.Quantifiers.{position-Some}
use Rattle.std.proofs.lemmas.Iterator.Adapters.{position_from-zero}
use Rattle.std.specs.List.{filter, position_from}
use Rattle.std.specs.Option.{is_some}
use Rattle.mos_edits.specs.Texts.{Text, same_id, has_id}
use Rattle.mos_edits.proofs.Distinct.{IsDistinct, is-distinct}
use Rattle.mos_edits.proofs.Identifiers.{same-true}
use Rattle.mos_values.specs.Distinct.{AreDistinct, story_ids}
use Rattle.mos_values.specs.StoryValue.{Story}
use Rattle.order_table.specs.Rows.{without_rows}
use Rattle.running_order.specs.Places.{place_of, ids_at}

pub ids_at-at : (ss : List Story) (i : ℕ) (s : Story) → slice_get ss i ≡ Some s → ids_at ss i ≡ s.id ∷ []
ids_at-at [] i s h = absurd (cc)
ids_at-at (x ∷ ss) zero s h = let e : x ≡ s = cc in ap (λ (z : Story). z.id ∷ []) e
ids_at-at (x ∷ ss) (suc i) s h = ids_at-at ss i s h

pub ids_at-none : (ss : List Story) (i : ℕ) → slice_get ss i ≡ None → ids_at ss i ≡ []
ids_at-none [] i h = refl
ids_at-none (x ∷ ss) zero h = absurd (cc)
ids_at-none (x ∷ ss) (suc i) h = ids_at-none ss i h

pub without-nothing : {X : Type 0} (rows : List (Text × X)) → without_rows [] rows ≡ rows
without-nothing [] = refl
without-nothing {X = X} (x ∷ xs) = ap (λ (ys : List (Text × X)). x ∷ ys) (without-nothing xs)

place-from : (t : Text) (ids : List Text) (k : ℕ) → is_some (position_from (same_id t) k ids) ≡ has_id t ids
place-from t [] k = refl
place-from t (x ∷ xs) k = go (same_id t x) (place-from t xs (k + 1))
  where
    go : (b : Bool) → is_some (position_from (same_id t) (k + 1) xs) ≡ has_id t xs → is_some (cond b (Some k) (position_from (same_id t) (k + 1) xs)) ≡ b || has_id t xs
    go true h = refl
    go false h = h

-- an identifier has a place exactly where it stands in the list
pub place-has : (t : Text) (ids : List Text) → is_some (place_of t ids) ≡ has_id t ids
place-has t ids = ap (λ o. is_some o) (position_from-zero (same_id t) ids) ∙ place-from t ids 0

-- one that stands nowhere stands behind no place
has-none : (t : Text) (ids : List Text) (left : ℕ) → has_id t ids ≡ false → has_id t (drop left ids) ≡ false
has-none t ids zero h = h
has-none t [] (suc k) h = refl
has-none t (x ∷ xs) (suc k) h = has-none t xs k (grind (arith, h))

has-at : (t : Text) (ids : List Text) (n : ℕ) (d : Text) → n < length ids → same_id t (get_or ids n d) ≡ true → has_id t ids ≡ true
has-at t [] n d lt h = absurd (omega (arith, lt))
has-at t (x ∷ xs) zero d lt h = rw h refl
has-at t (x ∷ xs) (suc n) d lt h = let i = has-at t xs n d (omega (arith, lt)) h in grind (arith, i)

-- one of distinct identifiers stands behind a place exactly where its own place isn't in front of that
has-behind : (t : Text) (ids : List Text) (n left : ℕ) (d : Text) → IsDistinct ids → n < length ids → same_id t (get_or ids n d) ≡ true → not (nat_lt n left) ≡ has_id t (drop left ids)
has-behind t [] n left d u lt h = absurd (omega (arith, lt))
has-behind t (x ∷ xs) n zero d u lt h = let i = has-at t (x ∷ xs) n d lt h in grind (arith, nat_tests, i)
has-behind t (x ∷ xs) zero (suc k) d u lt h =
    let front : not (nat_lt 0 (suc k)) ≡ false = grind (arith, nat_tests) in
    front ∙ sym (has-none t xs k (subst (λ (z : Text). has_id z xs ≡ false) (sym (same-true t x h)) u.0))
has-behind t (x ∷ xs) (suc n) (suc k) d u lt h =
    let less : not (nat_lt (suc n) (suc k)) ≡ not (nat_lt n k) = grind (arith, nat_tests) in
    less ∙ has-behind t xs n k d u.1 (omega (arith, lt)) h

-- whether none from a place on has the identifier, by the place that was looked up
pub none-behind : (t : Text) (ss : List Story) (left n : ℕ) → AreDistinct (story_ids ss) → place_of t (story_ids ss) ≡ Some n → nat_lt n left ≡ not (has_id t (story_ids (drop left ss)))
none-behind t ss left n u h =
    let p = position-Some (same_id t) (story_ids ss) n t h in
    let b = has-behind t (story_ids ss) n left t (is-distinct (story_ids ss) u) p.0 p.1 in
    by (nat_lt n left) (b ∙ ap (has_id t) (drop-map (λ (s : Story). s.id) left ss))
  where
    by : (q : Bool) → not q ≡ has_id t (story_ids (drop left ss)) → q ≡ not (has_id t (story_ids (drop left ss)))
    by true e = ap not e
    by false e = ap not e

pub none-anywhere : (t : Text) (ss : List Story) (left : ℕ) → place_of t (story_ids ss) ≡ None → true ≡ not (has_id t (story_ids (drop left ss)))
none-anywhere t ss left h =
    let no : has_id t (story_ids ss) ≡ false = sym (place-has t (story_ids ss)) ∙ ap (λ o. is_some o) h in
    sym (ap not (sym (ap (has_id t) (drop-map (λ (s : Story). s.id) left ss)) ∙ has-none t (story_ids ss) left no))

-- the rows that are kept are those without the others
pub kept-rows : {X : Type 0} (gone : List Text) (rows : List (Text × X)) → filter (λ row. not (has_id row.0 gone)) rows ≡ without_rows gone rows
kept-rows gone [] = refl
kept-rows {X = X} gone (x ∷ xs) = by (has_id x.0 gone) (kept-rows gone xs)
  where
    by : (b : Bool) → filter (λ (row : Text × X). not (has_id row.0 gone)) xs ≡ without_rows gone xs
        → cond (not b) (x ∷ filter (λ (row : Text × X). not (has_id row.0 gone)) xs) (filter (λ (row : Text × X). not (has_id row.0 gone)) xs) ≡ (if b then without_rows gone xs else x ∷ without_rows gone xs)
    by true i = i
    by false i = ap (λ (ys : List (Text × X)). x ∷ ys) i
