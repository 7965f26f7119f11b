-- What a look-up finds in rows that were written or changed.
use Rattle.std.proofs.Common.{◌≡◌, Bool, true, false, List, [], ◌∷◌, Option, Some, None, IsSome, refl, sym, ap, ◌∙◌, subst, if◌then◌else◌}
use Rattle.mos_edits.specs.Texts.{Text, same_id}
use Rattle.mos_edits.proofs.Identifiers.{same-true, same-self}
use Rattle.mos_edits.specs.Entries.{is_before, insert_id}
use Rattle.mos_edits.specs.Rows.{look, put_row, row_ids, map_rows}
use Rattle.order_table.specs.Rows.{IsBeforeAll, IsAscending, find_row, value_or}
use Rattle.order_table.proofs.AscendingRows.{before-all, find-none}

module _ {X : Type 0} where
  -- a table's value is that of the row, or the default
  pub look-found : (d : X) (r : Text) (rows : List (Text × X)) → look d rows r ≡ value_or d (find_row r rows)
  look-found d r [] = refl
  look-found d r (x ∷ xs) = by (same_id r x.0) (look-found d r xs)
    where
      by : (b : Bool) → look d xs r ≡ value_or d (find_row r xs) → (if b then x.1 else look d xs r) ≡ value_or d (if b then Some x.1 else find_row r xs)
      by true i = refl
      by false i = i

  -- the last row that is written stands
  pub put-put : (r : Text) (u v : X) (rows : List (Text × X)) → put_row r v (put_row r u rows) ≡ put_row r v rows
  put-put r u v [] = ap (λ (b : Bool). if b then (r, v) ∷ [] else (if is_before r r then (r, v) ∷ (r, u) ∷ [] else (r, u) ∷ (r, v) ∷ [])) (same-self r)
  put-put r u v (x ∷ xs) = by (same_id r x.0) refl (is_before r x.0) refl (put-put r u v xs)
    where
      again : (zs : List (Text × X)) → put_row r v ((r, u) ∷ zs) ≡ (r, v) ∷ zs
      again zs = ap (λ (b : Bool). if b then (r, v) ∷ zs else (if is_before r r then (r, v) ∷ (r, u) ∷ zs else (r, u) ∷ put_row r v zs)) (same-self r)

      further : same_id r x.0 ≡ false → is_before r x.0 ≡ false → (zs : List (Text × X)) → put_row r v (x ∷ zs) ≡ x ∷ put_row r v zs
      further s e zs =
          ap (λ (b : Bool). if b then (r, v) ∷ zs else (if is_before r x.0 then (r, v) ∷ (x ∷ zs) else x ∷ put_row r v zs)) s
          ∙ ap (λ (b : Bool). if b then (r, v) ∷ (x ∷ zs) else x ∷ put_row r v zs) e

      by : (b : Bool) → same_id r x.0 ≡ b → (c : Bool) → is_before r x.0 ≡ c → put_row r v (put_row r u xs) ≡ put_row r v xs
          → put_row r v (if b then (r, u) ∷ xs else (if c then (r, u) ∷ (x ∷ xs) else x ∷ put_row r u xs)) ≡ (if b then (r, v) ∷ xs else (if c then (r, v) ∷ (x ∷ xs) else x ∷ put_row r v xs))
      by true s c e i = again xs
      by false s true e i = again (x ∷ xs)
      by false s false e i = further s e (put_row r u xs) ∙ ap (λ (zs : List (Text × X)). x ∷ zs) i

  pub find-put : (r : Text) (v : X) (rows : List (Text × X)) → find_row r (put_row r v rows) ≡ Some v
  find-put r v [] = ap (λ (b : Bool). if b then Some v else None) (same-self r)
  find-put r v (x ∷ xs) = by (same_id r x.0) refl (is_before r x.0) (find-put r v xs)
    where
      by : (b : Bool) → same_id r x.0 ≡ b → (c : Bool) → find_row r (put_row r v xs) ≡ Some v
          → find_row r (if b then (r, v) ∷ xs else (if c then (r, v) ∷ (x ∷ xs) else x ∷ put_row r v xs)) ≡ Some v
      by true s c i = ap (λ (b : Bool). if b then Some v else find_row r xs) (same-self r)
      by false s true i = ap (λ (b : Bool). if b then Some v else find_row r (x ∷ xs)) (same-self r)
      by false s false i = ap (λ (b : Bool). if b then Some x.1 else find_row r (put_row r v xs)) s ∙ i

  -- a row that is there stays there
  pub find-kept : (q r : Text) (v : X) (rows : List (Text × X)) → IsSome (find_row q rows) → IsSome (find_row q (put_row r v rows))
  find-kept q r v [] h = absurd (let n : false ≡ true = h in cc)
  find-kept q r v (x ∷ xs) h = by (same_id r x.0) refl (is_before r x.0) (same_id q x.0) refl h (find-kept q r v xs)
    where
      here : same_id q x.0 ≡ true → same_id r x.0 ≡ true → IsSome (find_row q ((r, v) ∷ xs))
      here a s = subst (λ (b : Bool). IsSome (if b then Some v else find_row q xs)) (sym (subst (λ (z : Text). same_id q z ≡ true) (sym (same-true r x.0 s)) a)) refl

      first : (b : Bool) → same_id q r ≡ b → IsSome (find_row q (x ∷ xs)) → IsSome (if b then Some v else find_row q (x ∷ xs))
      first true e i = refl
      first false e i = i

      by : (b : Bool) → same_id r x.0 ≡ b → (c : Bool) → (a : Bool) → same_id q x.0 ≡ a → IsSome (if a then Some x.1 else find_row q xs) → (IsSome (find_row q xs) → IsSome (find_row q (put_row r v xs)))
          → IsSome (find_row q (if b then (r, v) ∷ xs else (if c then (r, v) ∷ (x ∷ xs) else x ∷ put_row r v xs)))
      by true s c true e i k = here e s
      by true s c false e i k = other (same_id q r) i
        where
          other : (b : Bool) → IsSome (find_row q xs) → IsSome (if b then Some v else find_row q xs)
          other true j = refl
          other false j = j
      by false s true a e i k = first (same_id q r) refl (subst (λ (b : Bool). IsSome (if b then Some x.1 else find_row q xs)) (sym e) i)
      by false s false true e i k = subst (λ (b : Bool). IsSome (if b then Some x.1 else find_row q (put_row r v xs))) (sym e) refl
      by false s false false e i k = subst (λ (b : Bool). IsSome (if b then Some x.1 else find_row q (put_row r v xs))) (sym e) (k i)

  pub find-map : (f : Text → X → X) (r : Text) (rows : List (Text × X)) → IsSome (find_row r rows) → IsSome (find_row r (map_rows f rows))
  find-map f r [] h = h
  find-map f r (x ∷ xs) h = by (same_id r x.0) h (find-map f r xs)
    where
      by : (b : Bool) → IsSome (if b then Some x.1 else find_row r xs) → (IsSome (find_row r xs) → IsSome (find_row r (map_rows f xs))) → IsSome (if b then Some (f x.0 x.1) else find_row r (map_rows f xs))
      by true h i = refl
      by false h i = i h

  -- a roID that has a row is among the roIDs already
  pub ids-there : (r : Text) (rows : List (Text × X)) → IsAscending (row_ids rows) → IsSome (find_row r rows) → insert_id r (row_ids rows) ≡ row_ids rows
  ids-there r [] a h = absurd (let n : false ≡ true = h in cc)
  ids-there r (x ∷ xs) a h = by (same_id r x.0) refl (is_before r x.0) refl h (ids-there r xs a.1)
    where
      before : is_before r x.0 ≡ true → IsSome (find_row r xs) → ⊥
      before e i = none xs (before-all r x.0 (row_ids xs) e a.0) i
        where
          none : (ys : List (Text × X)) → IsBeforeAll r (row_ids ys) → IsSome (find_row r ys) → ⊥
          none ys b i = let n = find-none r ys b in absurd (let k : false ≡ true = subst (λ (o : Option X). IsSome o) n i in cc)

      by : (b : Bool) → same_id r x.0 ≡ b → (c : Bool) → is_before r x.0 ≡ c → IsSome (if b then Some x.1 else find_row r xs) → (IsSome (find_row r xs) → insert_id r (row_ids xs) ≡ row_ids xs)
          → (if b then x.0 ∷ row_ids xs else (if c then r ∷ (x.0 ∷ row_ids xs) else x.0 ∷ insert_id r (row_ids xs))) ≡ x.0 ∷ row_ids xs
      by true s c e i k = refl
      by false s true e i k = absurd (before e i)
      by false s false e i k = ap (λ (zs : List Text). x.0 ∷ zs) (k i)
