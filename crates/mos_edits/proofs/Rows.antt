-- Ascending rows: what is found in them, and what writing one and leaving some out make of them.
use Rattle.std.proofs.Common.{◌≡◌, List, [], ◌∷◌, Bool, true, false, Some, None, refl, sym, ap, ◌∙◌, subst, if◌then◌else◌}
use Rattle.mos_edits.specs.Texts.{Text, same_id, has_id}
use Rattle.mos_edits.specs.KeyedLists.{without}
use Rattle.mos_edits.specs.Distinct.{Each}
use Rattle.mos_edits.specs.Rows.{is_before, IsBeforeAll, IsAscending, find_row, put_row, row_ids, map_rows}
use Rattle.mos_edits.proofs.Identifiers.{same-true, same-self, same-sym, same-false}
use Rattle.mos_edits.proofs.Before.{before-self, before-trans, before-differs, behind}

before-all : (r x : Text) (xs : List Text) → is_before r x ≡ true → IsBeforeAll x xs → IsBeforeAll r xs
before-all r x [] h k = tt
before-all r x (y ∷ ys) h k = (before-trans r x y h k.0, before-all r x ys h k.1)

pub not-behind : (r x : Text) → is_before x r ≡ true → is_before r x ≡ false
not-behind r x h = by (is_before r x) refl
  where
    by : (b : Bool) → is_before r x ≡ b → b ≡ false
    by false e = refl
    by true e = absurd (let t = before-trans r x r e h in let n = before-self r in cc)

-- rows of which those are left out whose value is dropped
abbrev pub kept : {X : Type 0} → (X → Bool) → List (Text × X) → List (Text × X)
kept drops [] = []
kept drops (x ∷ xs) = if drops x.1 then kept drops xs else x ∷ kept drops xs

module _ {X : Type 0} where
  -- an identifier that stands before all rows is in none
  pub find-none : (r : Text) (rows : List (Text × X)) → IsBeforeAll r (row_ids rows) → find_row r rows ≡ None
  find-none r [] h = refl
  find-none r (x ∷ xs) h = by (same_id r x.0) refl (find-none r xs h.1)
    where
      by : (b : Bool) → same_id r x.0 ≡ b → find_row r xs ≡ None → (if b then Some x.1 else find_row r xs) ≡ None
      by false e i = i
      by true e i = absurd (let n = before-differs r x.0 h.0 in let s = same-sym r x.0 in cc)

  -- one that is found stands after what stands before all rows
  pub find-after : (q r : Text) (rows : List (Text × X)) (v : X) → IsBeforeAll q (row_ids rows) → find_row r rows ≡ Some v → is_before q r ≡ true
  find-after q r [] v h f = absurd (cc)
  find-after q r (x ∷ xs) v h f = by (same_id r x.0) refl (find-after q r xs v h.1) f
    where
      by : (b : Bool) → same_id r x.0 ≡ b → (find_row r xs ≡ Some v → is_before q r ≡ true) → (if b then Some x.1 else find_row r xs) ≡ Some v → is_before q r ≡ true
      by true e i f = subst (λ (z : Text). is_before q z ≡ true) (sym (same-true r x.0 e)) h.0
      by false e i f = i f

  -- a row that is written before all others
  pub put-front : (r : Text) (v : X) (rows : List (Text × X)) → IsBeforeAll r (row_ids rows) → put_row r v rows ≡ (r, v) ∷ rows
  put-front r v [] h = refl
  put-front r v (x ∷ xs) h = by (same_id r x.0) (is_before r x.0) (same-false r x.0 (before-differs r x.0 h.0)) h.0
    where
      by : (b c : Bool) → b ≡ false → c ≡ true → (if b then (r, v) ∷ xs else (if c then (r, v) ∷ (x ∷ xs) else x ∷ put_row r v xs)) ≡ (r, v) ∷ (x ∷ xs)
      by false true e f = refl
      by true c e f = absurd (cc)
      by false false e f = absurd (cc)

  put-before : (x r : Text) (v : X) (rows : List (Text × X)) → IsBeforeAll x (row_ids rows) → is_before x r ≡ true → IsBeforeAll x (row_ids (put_row r v rows))
  put-before x r v [] h b = (b, tt)
  put-before x r v (y ∷ ys) h b = by (same_id r y.0) (is_before r y.0) (put-before x r v ys h.1 b)
    where
      by : (c d : Bool) → IsBeforeAll x (row_ids (put_row r v ys)) → IsBeforeAll x (row_ids (if c then (r, v) ∷ ys else (if d then (r, v) ∷ (y ∷ ys) else y ∷ put_row r v ys)))
      by true d i = (b, h.1)
      by false true i = (b, h)
      by false false i = (h.0, i)

  pub put-ascending : (r : Text) (v : X) (rows : List (Text × X)) → IsAscending (row_ids rows) → IsAscending (row_ids (put_row r v rows))
  put-ascending r v [] h = (tt, tt)
  put-ascending r v (x ∷ xs) h = by (same_id r x.0) refl (is_before r x.0) refl (put-ascending r v xs h.1)
    where
      further : same_id r x.0 ≡ false → is_before r x.0 ≡ false → is_before x.0 r ≡ true
      further s e = behind x.0 r (same-sym x.0 r ∙ s) e

      by : (c : Bool) → same_id r x.0 ≡ c → (d : Bool) → is_before r x.0 ≡ d → IsAscending (row_ids (put_row r v xs)) → IsAscending (row_ids (if c then (r, v) ∷ xs else (if d then (r, v) ∷ (x ∷ xs) else x ∷ put_row r v xs)))
      by true s d e i = subst (λ (z : Text). IsAscending (z ∷ row_ids xs)) (sym (same-true r x.0 s)) h
      by false s true e i = ((e, before-all r x.0 (row_ids xs) e h.0), h)
      by false s false e i = (put-before x.0 r v xs h.0 (further s e), i)

  without-before : (x : Text) (gone : List Text) (rows : List (Text × X)) → IsBeforeAll x (row_ids rows) → IsBeforeAll x (row_ids (without (λ row. row.0) gone rows))
  without-before x gone [] h = tt
  without-before x gone (y ∷ ys) h = by (has_id y.0 gone) (without-before x gone ys h.1)
    where
      by : (c : Bool) → IsBeforeAll x (row_ids (without (λ row. row.0) gone ys)) → IsBeforeAll x (row_ids (if c then without (λ row. row.0) gone ys else y ∷ without (λ row. row.0) gone ys))
      by true i = i
      by false i = (h.0, i)

  pub without-ascending : (gone : List Text) (rows : List (Text × X)) → IsAscending (row_ids rows) → IsAscending (row_ids (without (λ row. row.0) gone rows))
  without-ascending gone [] h = tt
  without-ascending gone (x ∷ xs) h = by (has_id x.0 gone) (without-ascending gone xs h.1)
    where
      by : (c : Bool) → IsAscending (row_ids (without (λ row. row.0) gone xs)) → IsAscending (row_ids (if c then without (λ row. row.0) gone xs else x ∷ without (λ row. row.0) gone xs))
      by true i = i
      by false i = (without-before x.0 gone xs h.0, i)

  pub kept-before : (x : Text) (drops : X → Bool) (rows : List (Text × X)) → IsBeforeAll x (row_ids rows) → IsBeforeAll x (row_ids (kept drops rows))
  kept-before x drops [] h = tt
  kept-before x drops (y ∷ ys) h = by (drops y.1) (kept-before x drops ys h.1)
    where
      by : (c : Bool) → IsBeforeAll x (row_ids (kept drops ys)) → IsBeforeAll x (row_ids (if c then kept drops ys else y ∷ kept drops ys))
      by true i = i
      by false i = (h.0, i)

  pub kept-all : (rows : List (Text × X)) → kept (λ x. false) rows ≡ rows
  kept-all [] = refl
  kept-all (x ∷ xs) = ap (λ (ys : List (Text × X)). x ∷ ys) (kept-all xs)

  pub kept-none : (drops : X → Bool) (rows : List (Text × X)) → Each (λ row. drops row.1 ≡ true) rows → kept drops rows ≡ []
  kept-none drops [] h = refl
  kept-none drops (x ∷ xs) h = rw h.0 (kept-none drops xs h.1)

  -- what is found among those that are kept is found among all
  pub find-kept : (drops : X → Bool) (rows : List (Text × X)) → IsAscending (row_ids rows) → (r : Text) (v : X) → find_row r (kept drops rows) ≡ Some v → find_row r rows ≡ Some v
  find-kept drops [] h r v f = f
  find-kept drops (x ∷ xs) h r v f = by (drops x.1) (same_id r x.0) refl (find-kept drops xs h.1 r v) f
    where
      gone : same_id r x.0 ≡ true → find_row r (kept drops xs) ≡ None
      gone e = subst (λ (z : Text). find_row z (kept drops xs) ≡ None) (sym (same-true r x.0 e)) (find-none x.0 (kept drops xs) (kept-before x.0 drops xs h.0))

      by : (c d : Bool) → same_id r x.0 ≡ d → (find_row r (kept drops xs) ≡ Some v → find_row r xs ≡ Some v) → find_row r (if c then kept drops xs else x ∷ kept drops xs) ≡ Some v → (if d then Some x.1 else find_row r xs) ≡ Some v
      by true true e i f = absurd (let n = gone e in cc)
      by true false e i f = i f
      by false true e i f = rw e at f
      by false false e i f = i (rw e at f)

  -- each row is the one that is found
  found-more : (x : Text × X) (xs ys : List (Text × X)) → IsBeforeAll x.0 (row_ids ys) → Each (λ row. find_row row.0 xs ≡ Some row.1) ys → Each (λ row. find_row row.0 (x ∷ xs) ≡ Some row.1) ys
  found-more x xs [] h e = tt
  found-more x xs (y ∷ ys) h e = (by (same_id y.0 x.0) (before-differs x.0 y.0 h.0), found-more x xs ys h.1 e.1)
    where
      by : (b : Bool) → b ≡ false → (if b then Some x.1 else find_row y.0 xs) ≡ Some y.1
      by false s = e.0
      by true s = absurd (cc)

  pub found : (rows : List (Text × X)) → IsAscending (row_ids rows) → Each (λ row. find_row row.0 rows ≡ Some row.1) rows
  found [] h = tt
  found (x ∷ xs) h = (rw (same-self x.0) refl, found-more x xs xs h.0 (found xs h.1))

  -- what holds of each row holds of one that is found
  pub found-each : (P : Text × X → Type 0) (rows : List (Text × X)) → Each P rows → (r : Text) (v : X) → find_row r rows ≡ Some v → P (r, v)
  found-each P [] a r v f = absurd (cc)
  found-each P (x ∷ xs) a r v f = by (same_id r x.0) refl (found-each P xs a.1 r v) f
    where
      by : (b : Bool) → same_id r x.0 ≡ b → (find_row r xs ≡ Some v → P (r, v)) → (if b then Some x.1 else find_row r xs) ≡ Some v → P (r, v)
      by true e i f = let v_is : x.1 ≡ v = cc in subst (λ (z : Text). P (z, v)) (sym (same-true r x.0 e)) (subst (λ (z : X). P (x.0, z)) v_is a.0)
      by false e i f = i f

  pub each-map : (P Q : Text × X → Type 0) (rows : List (Text × X)) → ((row : Text × X) → P row → Q row) → Each P rows → Each Q rows
  each-map P Q [] f a = tt
  each-map P Q (x ∷ xs) f a = (f x a.0, each-map P Q xs f a.1)

  pub each-both : (P Q : Text × X → Type 0) (rows : List (Text × X)) → Each P rows → Each Q rows → Each (λ row. P row × Q row) rows
  each-both P Q [] a b = tt
  each-both P Q (x ∷ xs) a b = ((a.0, b.0), each-both P Q xs a.1 b.1)

  pub each-put : (P : Text × X → Type 0) (r : Text) (v : X) (rows : List (Text × X)) → P (r, v) → Each P rows → Each P (put_row r v rows)
  each-put P r v [] p a = (p, tt)
  each-put P r v (x ∷ xs) p a = by (same_id r x.0) (is_before r x.0) (each-put P r v xs p a.1)
    where
      by : (c d : Bool) → Each P (put_row r v xs) → Each P (if c then (r, v) ∷ xs else (if d then (r, v) ∷ (x ∷ xs) else x ∷ put_row r v xs))
      by true d i = (p, a.1)
      by false true i = (p, a)
      by false false i = (a.0, i)

module _ {X Y : Type 0} where
  pub map-put : (f : X → Y) (r : Text) (v : X) (rows : List (Text × X)) → map_rows (λ i. f) (put_row r v rows) ≡ put_row r (f v) (map_rows (λ i. f) rows)
  map-put f r v [] = refl
  map-put f r v (x ∷ xs) = by (same_id r x.0) (is_before r x.0) (map-put f r v xs)
    where
      by : (c d : Bool) → map_rows (λ i. f) (put_row r v xs) ≡ put_row r (f v) (map_rows (λ i. f) xs)
          → map_rows (λ i. f) (if c then (r, v) ∷ xs else (if d then (r, v) ∷ (x ∷ xs) else x ∷ put_row r v xs)) ≡ (if c then (r, f v) ∷ map_rows (λ i. f) xs else (if d then (r, f v) ∷ ((x.0, f x.1) ∷ map_rows (λ i. f) xs) else (x.0, f x.1) ∷ put_row r (f v) (map_rows (λ i. f) xs)))
      by true d h = refl
      by false true h = refl
      by false false h = ap (λ (ys : List (Text × Y)). (x.0, f x.1) ∷ ys) h

  pub map-without : (f : X → Y) (gone : List Text) (rows : List (Text × X)) → map_rows (λ i. f) (without (λ row. row.0) gone rows) ≡ without (λ row. row.0) gone (map_rows (λ i. f) rows)
  map-without f gone [] = refl
  map-without f gone (x ∷ xs) = by (has_id x.0 gone) (map-without f gone xs)
    where
      by : (c : Bool) → map_rows (λ i. f) (without (λ row. row.0) gone xs) ≡ without (λ row. row.0) gone (map_rows (λ i. f) xs)
          → map_rows (λ i. f) (if c then without (λ row. row.0) gone xs else x ∷ without (λ row. row.0) gone xs) ≡ (if c then without (λ row. row.0) gone (map_rows (λ i. f) xs) else (x.0, f x.1) ∷ without (λ row. row.0) gone (map_rows (λ i. f) xs))
      by true h = h
      by false h = ap (λ (ys : List (Text × Y)). (x.0, f x.1) ∷ ys) h

  pub ids-map : (f : X → Y) (rows : List (Text × X)) → row_ids (map_rows (λ i. f) rows) ≡ row_ids rows
  ids-map f [] = refl
  ids-map f (x ∷ xs) = ap (λ (ys : List Text). x.0 ∷ ys) (ids-map f xs)

  pub find-map : (f : X → Y) (rows : List (Text × X)) (r : Text) (v : X) → find_row r rows ≡ Some v → find_row r (map_rows (λ i. f) rows) ≡ Some (f v)
  find-map f [] r v h = absurd (cc)
  find-map f (x ∷ xs) r v h = by (same_id r x.0) (find-map f xs r v) h
    where
      by : (b : Bool) → (find_row r xs ≡ Some v → find_row r (map_rows (λ i. f) xs) ≡ Some (f v)) → (if b then Some x.1 else find_row r xs) ≡ Some v → (if b then Some (f x.1) else find_row r (map_rows (λ i. f) xs)) ≡ Some (f v)
      by true i h = let e : x.1 ≡ v = cc in ap (λ (z : X). Some (f z)) e
      by false i h = i h

  pub find-mapped : (f : X → Y) (rows : List (Text × X)) (r : Text) (w : Y) → find_row r (map_rows (λ i. f) rows) ≡ Some w → (v : X) × (find_row r rows ≡ Some v) × (f v ≡ w)
  find-mapped f [] r w h = absurd (cc)
  find-mapped f (x ∷ xs) r w h = by (same_id r x.0) (find-mapped f xs r w) h
    where
      by : (b : Bool) → (find_row r (map_rows (λ i. f) xs) ≡ Some w → (v : X) × (find_row r xs ≡ Some v) × (f v ≡ w)) → (if b then Some (f x.1) else find_row r (map_rows (λ i. f) xs)) ≡ Some w → (v : X) × ((if b then Some x.1 else find_row r xs) ≡ Some v) × (f v ≡ w)
      by true i h = (x.1, refl, cc)
      by false i h = i h
