-- Ascending rows: where one stands, what a written row makes of them, and what stays.
use Rattle.std.proofs.Common.{◌≡◌, ℕ, zero, suc, ◌+◌, ◌<◌, ◌≤◌, Bool, true, false, List, [], ◌∷◌, length, get_or, set, insert, remove, slice_get, Option, Some, None, Result, Ok, Err, OnOk, OnErr, cond, refl, sym, ap, ◌∙◌, subst, if◌then◌else◌, arith}
use Rattle.std.specs.List.{filter}
use Rattle.mos_edits.specs.Texts.{Text, same_id}
use Rattle.mos_edits.proofs.Identifiers.{same-true, same-sym}
use Rattle.mos_edits.specs.Entries.{is_before, insert_id}
use Rattle.mos_edits.specs.Rows.{put_row, row_ids, map_rows}
pub use Rattle.mos_edits.proofs.Rows.{put-ascending}
use Rattle.std.proofs.lemmas.Option.{slice_get_within, get_or_from_slice_get}
use Rattle.order_table.specs.Rows.{IsBeforeAll, IsAscending, find_row, count_before, is_row_of, IsThere, IsMissing, put_rows, without_rows}
use Rattle.order_table.proofs.Order.{before-self, before-trans, before-differs, behind}

pub before-all : (r x : Text) (xs : List Text) → is_before r x ≡ true → IsBeforeAll x xs → IsBeforeAll r xs
before-all r x [] h k = tt
before-all r x (y ∷ ys) h k = (before-trans r x y h k.0, before-all r x ys h k.1)

not-behind : (r x : Text) → is_before x r ≡ true → is_before r x ≡ false
not-behind r x h = by (is_before r x) refl
  where
    by : (b : Bool) → is_before r x ≡ b → b ≡ false
    by false e = refl
    by true e = absurd (let t = before-trans r x r e h in let n = before-self r in cc)

module _ {X : Type 0} where
  -- a roID that stands before all rows is in none
  pub find-none : (r : Text) (rows : List (Text × X)) → IsBeforeAll r (row_ids rows) → find_row r rows ≡ None
  find-none r [] h = refl
  find-none r (x ∷ xs) h = by (same_id r x.0) refl (find-none r xs h.1)
    where
      by : (b : Bool) → same_id r x.0 ≡ b → find_row r xs ≡ None → (if b then Some x.1 else find_row r xs) ≡ None
      by false e i = i
      by true e i = absurd (let n = before-differs r x.0 h.0 in let s = same-sym r x.0 in cc)

  abbrev pub at_row : Text → Option (Text × X) → Option X
  at_row r None = None
  at_row r (Some x) = if same_id r x.0 then Some x.1 else None

  -- a row is found at its place, or there is none
  pub find-at : (r : Text) (rows : List (Text × X)) → IsAscending (row_ids rows) → find_row r rows ≡ at_row r (slice_get rows (count_before r (row_ids rows)))
  find-at r [] h = refl
  find-at r (x ∷ xs) h = by (is_before x.0 r) refl (find-at r xs h.1)
    where
      first : is_before x.0 r ≡ false → (c : Bool) → same_id r x.0 ≡ c → (if c then Some x.1 else find_row r xs) ≡ (if c then Some x.1 else None)
      first e true s = refl
      first e false s = find-none r xs (before-all r x.0 (row_ids xs) (behind r x.0 s e) h.0)

      by : (b : Bool) → is_before x.0 r ≡ b → find_row r xs ≡ at_row r (slice_get xs (count_before r (row_ids xs)))
          → (if same_id r x.0 then Some x.1 else find_row r xs) ≡ at_row r (slice_get (x ∷ xs) (if b then suc (count_before r (row_ids xs)) else zero))
      by true e i = subst (λ (b : Bool). (if b then Some x.1 else find_row r xs) ≡ at_row r (slice_get xs (count_before r (row_ids xs)))) (sym (before-differs x.0 r e)) i
      by false e i = first e (same_id r x.0) refl

  pub count-within : (r : Text) (rows : List (Text × X)) → count_before r (row_ids rows) ≤ length rows
  count-within r [] = omega arith
  count-within r (x ∷ xs) = by (is_before x.0 r) (count-within r xs)
    where
      by : (b : Bool) → count_before r (row_ids xs) ≤ length xs → (if b then suc (count_before r (row_ids xs)) else zero) ≤ suc (length xs)
      by true i = omega arith
      by false i = omega arith

  before-at : (r : Text) (rows : List (Text × X)) (i : ℕ) (x : Text × X) → IsBeforeAll r (row_ids rows) → slice_get rows i ≡ Some x → is_before r x.0 ≡ true
  before-at r [] i x h e = absurd (cc)
  before-at r (y ∷ ys) zero x h e = subst (λ (z : Text × X). is_before r z.0 ≡ true) (let f : y ≡ x = cc in f) h.0
  before-at r (y ∷ ys) (suc i) x h e = before-at r ys i x h.1 e

  -- a row that stands before the roID is counted, with all before it
  pub count-above : (r : Text) (rows : List (Text × X)) (i : ℕ) (x : Text × X) → IsAscending (row_ids rows) → slice_get rows i ≡ Some x → is_before x.0 r ≡ true → i + 1 ≤ count_before r (row_ids rows)
  count-above r [] i x h e b = absurd (cc)
  count-above r (y ∷ ys) zero x h e b =
      let f : y ≡ x = cc in
      let t : is_before y.0 r ≡ true = subst (λ (z : Text × X). is_before z.0 r ≡ true) (sym f) b in
      subst (λ (c : Bool). 1 ≤ (if c then suc (count_before r (row_ids ys)) else zero)) (sym t) (omega arith)
  count-above r (y ∷ ys) (suc i) x h e b =
      let t : is_before y.0 r ≡ true = before-trans y.0 x.0 r (before-at y.0 ys i x h.0 e) b in
      let n : i + 1 ≤ count_before r (row_ids ys) = count-above r ys i x h.1 e b in
      subst (λ (c : Bool). suc i + 1 ≤ (if c then suc (count_before r (row_ids ys)) else zero)) (sym t) (omega arith)

  -- one that doesn't isn't, and none behind it
  pub count-below : (r : Text) (rows : List (Text × X)) (i : ℕ) (x : Text × X) → slice_get rows i ≡ Some x → is_before x.0 r ≡ false → count_before r (row_ids rows) ≤ i
  count-below r [] i x e b = absurd (cc)
  count-below r (y ∷ ys) zero x e b =
      let f : y ≡ x = cc in
      let t : is_before y.0 r ≡ false = subst (λ (z : Text × X). is_before z.0 r ≡ false) (sym f) b in
      subst (λ (c : Bool). (if c then suc (count_before r (row_ids ys)) else zero) ≤ zero) (sym t) (omega arith)
  count-below r (y ∷ ys) (suc i) x e b = by (is_before y.0 r) (count-below r ys i x e b)
    where
      by : (c : Bool) → count_before r (row_ids ys) ≤ i → (if c then suc (count_before r (row_ids ys)) else zero) ≤ suc i
      by true n = omega arith
      by false n = omega arith

  -- a roID that is in no row gets one at its place
  pub put-new : (r : Text) (v : X) (rows : List (Text × X)) → IsAscending (row_ids rows) → find_row r rows ≡ None → put_row r v rows ≡ insert rows (count_before r (row_ids rows)) (r, v)
  put-new r v [] h e = refl
  put-new r v (x ∷ xs) h e = first (same_id r x.0) refl e (put-new r v xs h.1)
    where
      by : (b : Bool) → is_before x.0 r ≡ b → (c : Bool) → is_before r x.0 ≡ c → same_id r x.0 ≡ false → (put_row r v xs ≡ insert xs (count_before r (row_ids xs)) (r, v))
          → (if c then (r, v) ∷ (x ∷ xs) else x ∷ put_row r v xs) ≡ insert (x ∷ xs) (if b then suc (count_before r (row_ids xs)) else zero) (r, v)
      by true f true g s i = absurd (let n = not-behind r x.0 f in cc)
      by true f false g s i = ap (λ (ys : List (Text × X)). x ∷ ys) i
      by false f true g s i = refl
      by false f false g s i = absurd (let n = behind r x.0 s f in cc)

      first : (b : Bool) → same_id r x.0 ≡ b → (if b then Some x.1 else find_row r xs) ≡ None → (find_row r xs ≡ None → put_row r v xs ≡ insert xs (count_before r (row_ids xs)) (r, v))
          → (if b then (r, v) ∷ xs else (if is_before r x.0 then (r, v) ∷ (x ∷ xs) else x ∷ put_row r v xs)) ≡ insert (x ∷ xs) (count_before r (x.0 ∷ row_ids xs)) (r, v)
      first true s n i = absurd (cc)
      first false s n i = by (is_before x.0 r) refl (is_before r x.0) refl s (i n)

  -- a row that is there is written at its place
  pub put-there : (r : Text) (v : X) (rows : List (Text × X)) (x : Text × X) → IsAscending (row_ids rows) → slice_get rows (count_before r (row_ids rows)) ≡ Some x → same_id r x.0 ≡ true → put_row r v rows ≡ set rows (count_before r (row_ids rows)) (x.0, v)
  put-there r v [] x h e s = absurd (cc)
  put-there r v (y ∷ ys) x h e s = by (is_before y.0 r) refl e (λ g. put-there r v ys x h.1 g s)
    where
      above : is_before y.0 r ≡ true → put_row r v ys ≡ set ys (count_before r (row_ids ys)) (x.0, v) → (b c : Bool) → same_id r y.0 ≡ b → is_before r y.0 ≡ c
          → (if b then (r, v) ∷ ys else (if c then (r, v) ∷ (y ∷ ys) else y ∷ put_row r v ys)) ≡ y ∷ set ys (count_before r (row_ids ys)) (x.0, v)
      above f i true c g k = absurd (let n = before-differs y.0 r f in cc)
      above f i false true g k = absurd (let n = not-behind r y.0 f in cc)
      above f i false false g k = ap (λ (zs : List (Text × X)). y ∷ zs) i

      here : same_id r y.0 ≡ true → x ≡ y → (b : Bool) → same_id r y.0 ≡ b → (if b then (r, v) ∷ ys else (if is_before r y.0 then (r, v) ∷ (y ∷ ys) else y ∷ put_row r v ys)) ≡ (x.0, v) ∷ ys
      here t f false g = absurd (cc)
      here t f true g = ap (λ (z : Text). (z, v) ∷ ys) (same-true r x.0 s)

      by : (b : Bool) → is_before y.0 r ≡ b → slice_get (y ∷ ys) (if b then suc (count_before r (row_ids ys)) else zero) ≡ Some x
          → (slice_get ys (count_before r (row_ids ys)) ≡ Some x → put_row r v ys ≡ set ys (count_before r (row_ids ys)) (x.0, v))
          → put_row r v (y ∷ ys) ≡ set (y ∷ ys) (if b then suc (count_before r (row_ids ys)) else zero) (x.0, v)
      by true f g i = above f (i g) (same_id r y.0) (is_before r y.0) refl refl
      by false f g i = let k : y ≡ x = cc in here (subst (λ (z : Text × X). same_id r z.0 ≡ true) (sym k) s) (sym k) (same_id r y.0) refl

  -- a roID that is in no row takes none out
  pub without-none : (r : Text) (rows : List (Text × X)) → find_row r rows ≡ None → without_rows (r ∷ []) rows ≡ rows
  without-none r [] e = refl
  without-none r (x ∷ xs) e = by (same_id r x.0) (same-sym x.0 r) e (without-none r xs)
    where
      by : (b : Bool) → same_id x.0 r ≡ b → (if b then Some x.1 else find_row r xs) ≡ None → (find_row r xs ≡ None → without_rows (r ∷ []) xs ≡ xs) → without_rows (r ∷ []) (x ∷ xs) ≡ x ∷ xs
      by true s e i = absurd (cc)
      by false s e i = rw s (ap (λ (ys : List (Text × X)). x ∷ ys) (i e))

  -- a row that is there is taken out at its place
  pub without-there : (r : Text) (rows : List (Text × X)) (x : Text × X) → IsAscending (row_ids rows) → slice_get rows (count_before r (row_ids rows)) ≡ Some x → same_id r x.0 ≡ true → without_rows (r ∷ []) rows ≡ remove rows (count_before r (row_ids rows))
  without-there r [] x h e s = absurd (cc)
  without-there r (y ∷ ys) x h e s = by (is_before y.0 r) refl e (λ g. without-there r ys x h.1 g s)
    where
      above : is_before y.0 r ≡ true → without_rows (r ∷ []) ys ≡ remove ys (count_before r (row_ids ys)) → without_rows (r ∷ []) (y ∷ ys) ≡ y ∷ remove ys (count_before r (row_ids ys))
      above f i =
          let n : same_id y.0 r ≡ false = same-sym y.0 r ∙ before-differs y.0 r f in
          rw n (ap (λ (zs : List (Text × X)). y ∷ zs) i)

      here : same_id r y.0 ≡ true → without_rows (r ∷ []) (y ∷ ys) ≡ ys
      here f =
          let t : same_id y.0 r ≡ true = same-sym y.0 r ∙ f in
          let b : IsBeforeAll r (row_ids ys) = subst (λ (z : Text). IsBeforeAll z (row_ids ys)) (sym (same-true r y.0 f)) h.0 in
          rw t (without-none r ys (find-none r ys b))

      by : (b : Bool) → is_before y.0 r ≡ b → slice_get (y ∷ ys) (if b then suc (count_before r (row_ids ys)) else zero) ≡ Some x
          → (slice_get ys (count_before r (row_ids ys)) ≡ Some x → without_rows (r ∷ []) ys ≡ remove ys (count_before r (row_ids ys)))
          → without_rows (r ∷ []) (y ∷ ys) ≡ remove (y ∷ ys) (if b then suc (count_before r (row_ids ys)) else zero)
      by true f g i = above f (i g)
      by false f g i = let k : y ≡ x = cc in here (subst (λ (z : Text × X). same_id r z.0 ≡ true) (sym k) s)

-- what the row at the place of a roID tells
module _ {X : Type 0} (r : Text) (rows : List (Text × X)) (h : IsAscending (row_ids rows)) where
  there-by : (o : Option (Text × X)) → slice_get rows (count_before r (row_ids rows)) ≡ o → is_row_of r o ≡ true → IsThere r rows (count_before r (row_ids rows))
  there-by None e t = absurd (cc)
  there-by (Some x) e t =
      let is : (d : Text × X) → get_or rows (count_before r (row_ids rows)) d ≡ x = λ d. get_or_from_slice_get rows (count_before r (row_ids rows)) x d e in
      let found : find_row r rows ≡ Some x.1 = find-at r rows h ∙ (ap (at_row r) e ∙ ap (λ (b : Bool). if b then Some x.1 else None) t) in
      record {
        within = slice_get_within rows (count_before r (row_ids rows)) x e;
        found = λ d. found ∙ ap (λ (z : Text × X). Some z.1) (sym (is d));
        written = λ d v. put-there r v rows x h e t ∙ ap (λ (z : Text × X). set rows (count_before r (row_ids rows)) (z.0, v)) (sym (is d));
        removed = without-there r rows x h e t;
      }

  pub there : is_row_of r (slice_get rows (count_before r (row_ids rows))) ≡ true → IsThere r rows (count_before r (row_ids rows))
  there t = there-by (slice_get rows (count_before r (row_ids rows))) refl t

  missing-by : (o : Option (Text × X)) → slice_get rows (count_before r (row_ids rows)) ≡ o → is_row_of r o ≡ false → find_row r rows ≡ None
  missing-by None e t = find-at r rows h ∙ ap (at_row r) e
  missing-by (Some x) e t = find-at r rows h ∙ (ap (at_row r) e ∙ ap (λ (b : Bool). if b then Some x.1 else None) t)

  pub missing : is_row_of r (slice_get rows (count_before r (row_ids rows))) ≡ false → IsMissing r rows (count_before r (row_ids rows))
  missing t =
      let none : find_row r rows ≡ None = missing-by (slice_get rows (count_before r (row_ids rows))) refl t in
      record {
        within = count-within r rows;
        missing = none;
        written = λ v. put-new r v rows h none;
        removed = without-none r rows none;
      }

-- a change of every row, one after the other
module _ {X : Type 0} (f : Text → X → X) where
  abbrev pub map_front : ℕ → List (Text × X) → List (Text × X)
  map_front zero xs = xs
  map_front (suc n) [] = []
  map_front (suc n) (x ∷ xs) = (x.0, f x.0 x.1) ∷ map_front n xs

  pub front-all : (xs : List (Text × X)) → map_front (length xs) xs ≡ map_rows f xs
  front-all [] = refl
  front-all (x ∷ xs) = ap (λ (ys : List (Text × X)). (x.0, f x.0 x.1) ∷ ys) (front-all xs)

  pub front-length : (n : ℕ) (xs : List (Text × X)) → length (map_front n xs) ≡ length xs
  front-length zero xs = refl
  front-length (suc n) [] = refl
  front-length (suc n) (x ∷ xs) = ap suc (front-length n xs)

  pub front-here : (n : ℕ) (xs : List (Text × X)) (x : Text × X) → n < length xs → get_or (map_front n xs) n x ≡ get_or xs n x
  front-here zero xs x h = refl
  front-here (suc n) [] x h = refl
  front-here (suc n) (y ∷ ys) x h = front-here n ys x (omega arith)

  front-suc : (n : ℕ) (xs : List (Text × X)) (x : Text × X) → n < length xs → x ≡ get_or xs n x → set (map_front n xs) n (x.0, f x.0 x.1) ≡ map_front (suc n) xs
  front-suc n [] x h e = absurd (omega arith)
  front-suc zero (y ∷ ys) x h e = ap (λ (z : Text × X). (z.0, f z.0 z.1) ∷ ys) e
  front-suc (suc n) (y ∷ ys) x h e = ap (λ (zs : List (Text × X)). (y.0, f y.0 y.1) ∷ zs) (front-suc n ys x (omega arith) e)

  pub front-step : (n : ℕ) (xs : List (Text × X)) (x : Text × X) → n < length xs → x ≡ get_or xs n x → set (map_front n xs) n (x.0, f x.0 x.1) ≡ map_front (n + 1) xs
  front-step n xs x h e = front-suc n xs x h e ∙ ap (λ k. map_front k xs) (let k : suc n ≡ n + 1 = omega arith in k)

insert-before : (x r : Text) (ids : List Text) → IsBeforeAll x ids → is_before x r ≡ true → IsBeforeAll x (insert_id r ids)
insert-before x r [] h b = (b, tt)
insert-before x r (y ∷ ys) h b = by (same_id r y) (is_before r y) (insert-before x r ys h.1 b)
  where
    by : (c d : Bool) → IsBeforeAll x (insert_id r ys) → IsBeforeAll x (if c then y ∷ ys else (if d then r ∷ (y ∷ ys) else y ∷ insert_id r ys))
    by true d i = h
    by false true i = (b, h)
    by false false i = (h.0, i)

pub insert-ascending : (r : Text) (ids : List Text) → IsAscending ids → IsAscending (insert_id r ids)
insert-ascending r [] h = (tt, tt)
insert-ascending r (x ∷ xs) h = by (same_id r x) refl (is_before r x) refl (insert-ascending r xs h.1)
  where
    further : same_id r x ≡ false → is_before r x ≡ false → is_before x r ≡ true
    further s e = behind x r (same-sym x r ∙ s) e

    by : (c : Bool) → same_id r x ≡ c → (d : Bool) → is_before r x ≡ d → IsAscending (insert_id r xs) → IsAscending (if c then x ∷ xs else (if d then r ∷ (x ∷ xs) else x ∷ insert_id r xs))
    by true s d e i = h
    by false s true e i = ((e, before-all r x xs e h.0), h)
    by false s false e i = (insert-before x r xs h.0 (further s e), i)

ids-map : {X Y : Type 0} (f : Text → X → Y) (rows : List (Text × X)) → row_ids (map_rows f rows) ≡ row_ids rows
ids-map f [] = refl
ids-map f (x ∷ xs) = ap (λ (zs : List Text). x.0 ∷ zs) (ids-map f xs)

-- roIDs still ascend after a change of every row
pub map-ascending : {X : Type 0} (f : Text → X → X) (rows : List (Text × X)) → IsAscending (row_ids rows) → IsAscending (row_ids (map_rows f rows))
map-ascending f rows h = subst IsAscending (sym (ids-map f rows)) h

-- rows of which some are left out
module _ {X : Type 0} (keeps : Text → Bool) where
  filter-before : (x : Text) (rows : List (Text × X)) → IsBeforeAll x (row_ids rows) → IsBeforeAll x (row_ids (filter (λ row. keeps row.0) rows))
  filter-before x [] h = tt
  filter-before x (y ∷ ys) h = by (keeps y.0) (filter-before x ys h.1)
    where
      by : (c : Bool) → IsBeforeAll x (row_ids (filter (λ row. keeps row.0) ys)) → IsBeforeAll x (row_ids (cond c (y ∷ filter (λ row. keeps row.0) ys) (filter (λ row. keeps row.0) ys)))
      by true i = (h.0, i)
      by false i = i

  pub filter-ascending : (rows : List (Text × X)) → IsAscending (row_ids rows) → IsAscending (row_ids (filter (λ row. keeps row.0) rows))
  filter-ascending [] h = tt
  filter-ascending (x ∷ xs) h = by (keeps x.0) (filter-ascending xs h.1)
    where
      by : (c : Bool) → IsAscending (row_ids (filter (λ row. keeps row.0) xs)) → IsAscending (row_ids (cond c (x ∷ filter (λ row. keeps row.0) xs) (filter (λ row. keeps row.0) xs)))
      by true i = (filter-before x.0 xs h.0, i)
      by false i = i

-- a row was written, or there was no memory
pub ascending-after : {X A B : Type 0} (r : Text) (v : X) (old new : List (Text × X)) (o : Result A B) → OnOk o (new ≡ put_row r v old) → OnErr o (new ≡ old) → IsAscending (row_ids old) → IsAscending (row_ids new)
ascending-after {X = X} r v old new (Ok a) e f h = subst (λ (rows : List (Text × X)). IsAscending (row_ids rows)) (sym e) (put-ascending r v old h)
ascending-after {X = X} r v old new (Err b) e f h = subst (λ (rows : List (Text × X)). IsAscending (row_ids rows)) (sym f) h

pub put-all-ascending : {X : Type 0} (new rows : List (Text × X)) → IsAscending (row_ids rows) → IsAscending (row_ids (put_rows new rows))
put-all-ascending [] rows h = h
put-all-ascending (x ∷ xs) rows h = put-all-ascending xs (put_row x.0 x.1 rows) (put-ascending x.0 x.1 rows h)

pub ascending-after-all : {X A B : Type 0} (xs old new : List (Text × X)) (o : Result A B) → OnOk o (new ≡ put_rows xs old) → OnErr o (new ≡ old) → IsAscending (row_ids old) → IsAscending (row_ids new)
ascending-after-all {X = X} xs old new (Ok a) e f h = subst (λ (rows : List (Text × X)). IsAscending (row_ids rows)) (sym e) (put-all-ascending xs old h)
ascending-after-all {X = X} xs old new (Err b) e f h = subst (λ (rows : List (Text × X)). IsAscending (row_ids rows)) (sym f) h
