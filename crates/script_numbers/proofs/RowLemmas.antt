-- What is found in rows that are taken out, written anew or changed.
use Rattle.std.proofs.Common.{◌≡◌, ℕ, zero, suc, ◌+◌, ◌<◌, ◌≤◌, arith, Bool, true, false, List, [], ◌∷◌, ◌++◌, length, drop, get_or, slice_get, ◌||◌, Option, Some, None, IsSome, Result, Ok, Err, OnOk, OnErr, refl, sym, ap, ◌∙◌, subst, if◌then◌else◌}
use Rattle.std.proofs.lemmas.List.{append_assoc, drop_more, drop_all}
use Rattle.mos_edits.specs.Texts.{Text, same_id, has_id, set_order}
use Rattle.mos_edits.specs.KeyedLists.{with_found}
use Rattle.mos_edits.specs.Rows.{is_before, find_row, look, put_row}
use Rattle.mos_edits.proofs.Identifiers.{same-true}
use Rattle.mos_machines.proofs.RowTables.{look-put}
use Rattle.order_table.specs.Rows.{value_or, without_rows}
use Rattle.order_table.proofs.Looked.{look-found, find-put, put-put}
use Rattle.mos_values.specs.StoryValue.{Story}
use Rattle.mos_values.specs.Distinct.{story_ids}
use Rattle.script_numbers.specs.Numbers.{number_in, IsChanged, IsSame, numbers_on}

pub if-one : {X : Type 0} (b : Bool) (x : X) → (if b then x else x) ≡ x
if-one true x = refl
if-one false x = refl

module _ {X : Type 0} where
  pub look-some : (d : X) (r : Text) (rows : List (Text × X)) (v : X) → find_row r rows ≡ Some v → look d rows r ≡ v
  look-some d r rows v e = look-found d r rows ∙ ap (value_or d) e

  pub look-none : (d : X) (r : Text) (rows : List (Text × X)) → find_row r rows ≡ None → look d rows r ≡ d
  look-none d r rows e = look-found d r rows ∙ ap (value_or d) e

  set-same : (f : Text → X) (r : Text) → set_order f r (f r) ≡ f
  set-same f r = λ i. λ q. by q (same_id q r) refl i
    where
      by : (q : Text) (b : Bool) → same_id q r ≡ b → (if b then f r else f q) ≡ f q
      by q true e = ap f (sym (same-true q r e))
      by q false e = refl

  -- a row that is written as it would be looked up changes nothing
  pub look-same : (d : X) (r : Text) (v : X) (rows : List (Text × X)) → look d rows r ≡ v → look d (put_row r v rows) ≡ look d rows
  look-same d r v rows e = look-put d rows r v ∙ (ap (λ (w : X). set_order (look d rows) r w) (sym e) ∙ set-same (look d rows) r)

  pub some-put : (r : Text) (v : X) (rows : List (Text × X)) → IsSome (find_row r (put_row r v rows))
  some-put r v rows = subst (λ (o : Option X). IsSome o) (sym (find-put r v rows)) refl

  -- a new row where there is none
  pub same-after : {A B : Type 0} (o : Result A B) (d : X) (r : Text) (v : X) (old new : List (Text × X)) → v ≡ d → OnOk o (new ≡ put_row r v old) → OnErr o (new ≡ old) → find_row r old ≡ None → look d new ≡ look d old
  same-after (Ok x) d r v old new v_is e f h = ap (look d) e ∙ look-same d r v old (look-none d r old h ∙ sym v_is)
  same-after (Err y) d r v old new v_is e f h = ap (look d) f

  pub there-after : {A B : Type 0} (o : Result A B) (r : Text) (v : X) (old new : List (Text × X)) → OnOk o (new ≡ put_row r v old) → OnOk o (IsSome (find_row r new))
  there-after (Ok x) r v old new e = subst (λ (rows : List (Text × X)). IsSome (find_row r rows)) (sym e) (some-put r v old)
  there-after (Err y) r v old new e = e

  -- one row taken out and put back
  pub row-back : (r : Text) (u v w : X) (old taken back : List (Text × X)) → taken ≡ put_row r u old → back ≡ put_row r w taken → back ≡ put_row r w old
  row-back r u v w old taken back t b = b ∙ (ap (put_row r w) t ∙ put-put r u w old)

  -- a look-up in rows without some
  pub look-without : (d : X) (q : Text) (gone : List Text) (rows : List (Text × X)) → look d (without_rows gone rows) q ≡ (if has_id q gone then d else look d rows q)
  look-without d q gone [] = sym (if-one (has_id q gone) d)
  look-without d q gone (x ∷ xs) = by (same_id q x.0) refl (has_id x.0 gone) refl (has_id q gone) refl (look-without d q gone xs)
    where
      by : (s : Bool) → same_id q x.0 ≡ s → (c : Bool) → has_id x.0 gone ≡ c → (h : Bool) → has_id q gone ≡ h → look d (without_rows gone xs) q ≡ (if has_id q gone then d else look d xs q)
          → look d (if c then without_rows gone xs else x ∷ without_rows gone xs) q ≡ (if h then d else (if s then x.1 else look d xs q))
      by true e true f true g i = i ∙ ap (λ (b : Bool). if b then d else look d xs q) g
      by true e true f false g i = absurd (let t : has_id q gone ≡ true = subst (λ (z : Text). has_id z gone ≡ true) (sym (same-true q x.0 e)) f in cc)
      by true e false f true g i = absurd (let t : has_id q gone ≡ false = subst (λ (z : Text). has_id z gone ≡ false) (sym (same-true q x.0 e)) f in cc)
      by true e false f false g i = ap (λ (b : Bool). if b then x.1 else look d (without_rows gone xs) q) e
      by false e true f h g i = i ∙ ap (λ (b : Bool). if b then d else look d xs q) g
      by false e false f h g i = ap (λ (b : Bool). if b then x.1 else look d (without_rows gone xs) q) e ∙ (i ∙ ap (λ (b : Bool). if b then d else look d xs q) g)

  pub find-without : (q : Text) (gone : List Text) (rows : List (Text × X)) → find_row q (without_rows gone rows) ≡ (if has_id q gone then None else find_row q rows)
  find-without q gone [] = sym (if-one (has_id q gone) None)
  find-without q gone (x ∷ xs) = by (same_id q x.0) refl (has_id x.0 gone) refl (has_id q gone) refl (find-without q gone xs)
    where
      by : (s : Bool) → same_id q x.0 ≡ s → (c : Bool) → has_id x.0 gone ≡ c → (h : Bool) → has_id q gone ≡ h → find_row q (without_rows gone xs) ≡ (if has_id q gone then None else find_row q xs)
          → find_row q (if c then without_rows gone xs else x ∷ without_rows gone xs) ≡ (if h then None else (if s then Some x.1 else find_row q xs))
      by true e true f true g i = i ∙ ap (λ (b : Bool). if b then None else find_row q xs) g
      by true e true f false g i = absurd (let t : has_id q gone ≡ true = subst (λ (z : Text). has_id z gone ≡ true) (sym (same-true q x.0 e)) f in cc)
      by true e false f true g i = absurd (let t : has_id q gone ≡ false = subst (λ (z : Text). has_id z gone ≡ false) (sym (same-true q x.0 e)) f in cc)
      by true e false f false g i = ap (λ (b : Bool). if b then Some x.1 else find_row q (without_rows gone xs)) e
      by false e true f h g i = i ∙ ap (λ (b : Bool). if b then None else find_row q xs) g
      by false e false f h g i = ap (λ (b : Bool). if b then Some x.1 else find_row q (without_rows gone xs)) e ∙ (i ∙ ap (λ (b : Bool). if b then None else find_row q xs) g)

  -- a look-up in rows of which one was written anew
  pub find-written : (q r : Text) (v : X) (rows : List (Text × X)) → find_row q (put_row r v rows) ≡ (if same_id q r then Some v else find_row q rows)
  find-written q r v [] = refl
  find-written q r v (x ∷ xs) = go (same_id r x.0) refl (is_before r x.0) (find-written q r v xs)
    where
      same_row : (a b : Bool) → same_id q r ≡ a → same_id q x.0 ≡ b → same_id r x.0 ≡ true → (if a then Some v else find_row q xs) ≡ (if a then Some v else (if b then Some x.1 else find_row q xs))
      same_row true b e f s = refl
      same_row false false e f s = refl
      same_row false true e f s = let r_is = same-true r x.0 s in let y : same_id q r ≡ true = subst (λ (z : Text). same_id q z ≡ true) (sym r_is) f in absurd (cc)

      other_row : (a b : Bool) (l m : Option X) → same_id q r ≡ a → same_id q x.0 ≡ b → same_id r x.0 ≡ false → l ≡ (if a then Some v else m) → (if b then Some x.1 else l) ≡ (if a then Some v else (if b then Some x.1 else m))
      other_row true false l m e f s h = h
      other_row false false l m e f s h = h
      other_row false true l m e f s h = refl
      other_row true true l m e f s h = let q_is = same-true q r e in let y : same_id r x.0 ≡ true = subst (λ (z : Text). same_id z x.0 ≡ true) q_is f in absurd (cc)

      go : (c : Bool) → same_id r x.0 ≡ c → (b : Bool) → find_row q (put_row r v xs) ≡ (if same_id q r then Some v else find_row q xs)
          → find_row q (if c then (r, v) ∷ xs else (if b then (r, v) ∷ (x ∷ xs) else x ∷ put_row r v xs)) ≡ (if same_id q r then Some v else (if same_id q x.0 then Some x.1 else find_row q xs))
      go true s b h = same_row (same_id q r) (same_id q x.0) refl refl s
      go false s true h = refl
      go false s false h = other_row (same_id q r) (same_id q x.0) (find_row q (put_row r v xs)) (find_row q xs) refl refl s h

-- the row of an order written anew
pub changed-row : (r : Text) (change : Text → Option ℕ → Option ℕ) (u v w : List (Text × Option ℕ)) (old taken back : List (Text × List (Text × Option ℕ)))
    → find_row r old ≡ Some v → taken ≡ put_row r u old → back ≡ put_row r w taken → ((story : Text) → look None w story ≡ change story (look None v story)) → IsChanged r change old back
changed-row r change u v w old taken back f t b c = λ q story.
    ap (λ (l : Text → List (Text × Option ℕ)). look None (l q) story) (ap (look []) (row-back r u v w old taken back t b) ∙ look-put [] old r w)
    ∙ by q story (same_id q r) refl
  where
    by : (q story : Text) (s : Bool) → same_id q r ≡ s → look None (if s then w else look [] old q) story ≡ (if s then change story (number_in old q story) else number_in old q story)
    by q story true e = c story ∙ ap (λ (rows : List (Text × Option ℕ)). change story (look None rows story)) (sym (ap (look [] old) (same-true q r e) ∙ look-some [] r old v f))
    by q story false e = refl

-- an order that has no row
pub changed-none : (r : Text) (change : Text → Option ℕ → Option ℕ) (old : List (Text × List (Text × Option ℕ))) → find_row r old ≡ None → ((story : Text) → change story None ≡ None) → IsChanged r change old old
changed-none r change old f c = λ q story. by q story (same_id q r) refl
  where
    by : (q story : Text) (s : Bool) → same_id q r ≡ s → number_in old q story ≡ (if s then change story (number_in old q story) else number_in old q story)
    by q story true e =
        let none : number_in old q story ≡ None = ap (λ (rows : List (Text × Option ℕ)). look None rows story) (ap (look [] old) (same-true q r e) ∙ look-none [] r old f) in
        none ∙ (sym (c story) ∙ ap (change story) (sym none))
    by q story false e = refl

-- an order whose row is taken out
pub changed-without : (r : Text) (old : List (Text × List (Text × Option ℕ))) → IsChanged r (λ story number. None) old (without_rows (r ∷ []) old)
changed-without r old = λ q story.
    ap (λ (rows : List (Text × Option ℕ)). look None rows story) (look-without [] q (r ∷ []) old) ∙ by q story (same_id q r)
  where
    by : (q story : Text) (s : Bool) → look None (if s || false then [] else look [] old q) story ≡ (if s then None else number_in old q story)
    by q story true = refl
    by q story false = refl

-- nothing is changed
pub changed-not : (r : Text) (old : List (Text × List (Text × Option ℕ))) → IsChanged r (λ story number. number) old old
changed-not r old = λ q story. sym (if-one (same_id q r) (number_in old q story))

-- the same numbers after one row was taken out, given a row without a number, and put back
pub same-row : (r : Text) (u v w : List (Text × Option ℕ)) (old known taken back : List (Text × List (Text × Option ℕ)))
    → look [] known ≡ look [] old → find_row r known ≡ Some v → taken ≡ put_row r u known → back ≡ put_row r w taken → look None w ≡ look None v → IsSame old back
same-row r u v w old known taken back k f t b e = λ q story.
    ap (λ (l : Text → List (Text × Option ℕ)). look None (l q) story) (ap (look []) (row-back r u v w known taken back t b) ∙ look-put [] known r w)
    ∙ (by q story (same_id q r) refl ∙ ap (λ (l : Text → List (Text × Option ℕ)). look None (l q) story) k)
  where
    by : (q story : Text) (s : Bool) → same_id q r ≡ s → look None (if s then w else look [] known q) story ≡ look None (look [] known q) story
    by q story true s = ap (λ (l : Text → Option ℕ). l story) e ∙ ap (λ (rows : List (Text × Option ℕ)). look None rows story) (sym (ap (look [] known) (same-true q r s) ∙ look-some [] r known v f))
    by q story false s = refl

-- the row of a story in the row of an order that was put back
pub row-there : {A B : Type 0} (o : Result A B) (r story : Text) (w : List (Text × Option ℕ)) (taken back : List (Text × List (Text × Option ℕ)))
    → back ≡ put_row r w taken → OnOk o (IsSome (find_row story w)) → OnOk o (IsSome (find_row r back) × IsSome (find_row story (look [] back r)))
row-there (Ok x) r story w taken back b h = (
  subst (λ (rows : List (Text × List (Text × Option ℕ))). IsSome (find_row r rows)) (sym b) (some-put r w taken),
  subst (λ (rows : List (Text × Option ℕ)). IsSome (find_row story rows)) (sym (look-some [] r back w (ap (find_row r) b ∙ find-put r w taken))) h,
)
row-there (Err y) r story w taken back b h = h

-- the numbers in the rows of one story more
numbers-suc : (rows : List (Text × Option ℕ)) (stories : List Story) (i : ℕ) (s : Story) → slice_get stories i ≡ Some s
    → with_found (look None rows s.id) [] ++ numbers_on (story_ids (drop (suc i) stories)) rows ≡ numbers_on (story_ids (drop i stories)) rows
numbers-suc rows [] i s h = absurd (cc)
numbers-suc rows (x ∷ xs) zero s h = let e : x ≡ s = cc in by (look None rows s.id) ∙ ap (λ (y : Story). with_found (look None rows y.id) (numbers_on (story_ids xs) rows)) (sym e)
  where
    none : (ys : List Story) → drop 0 ys ≡ ys
    none [] = refl
    none (y ∷ ys) = refl

    by : (o : Option ℕ) → with_found o [] ++ numbers_on (story_ids (drop 0 xs)) rows ≡ with_found o (numbers_on (story_ids xs) rows)
    by None = ap (λ (ys : List Story). numbers_on (story_ids ys) rows) (none xs)
    by (Some n) = ap (λ (ys : List Story). n ∷ numbers_on (story_ids ys) rows) (none xs)
numbers-suc rows (x ∷ xs) (suc i) s h = numbers-suc rows xs i s h

pub numbers-more : (rows : List (Text × Option ℕ)) (stories : List Story) (i : ℕ) (s : Story) → slice_get stories i ≡ Some s
    → with_found (look None rows s.id) [] ++ numbers_on (story_ids (drop (i + 1) stories)) rows ≡ numbers_on (story_ids (drop i stories)) rows
numbers-more rows stories i s h =
    ap (λ (j : ℕ). with_found (look None rows s.id) [] ++ numbers_on (story_ids (drop j stories)) rows) (let e : i + 1 ≡ suc i = omega arith in e) ∙ numbers-suc rows stories i s h

-- the numbers so far and those that are still to come, after a place
pub place-more : (rows : List (Text × Option ℕ)) (stories : List Story) (i : ℕ) (s : Story) (all old new : List ℕ) → slice_get stories i ≡ Some s
    → old ++ numbers_on (story_ids (drop i stories)) rows ≡ all → new ≡ old ++ with_found (look None rows s.id) [] → new ++ numbers_on (story_ids (drop (i + 1) stories)) rows ≡ all
place-more rows stories i s all old new g h n =
    ap (λ (ks : List ℕ). ks ++ numbers_on (story_ids (drop (i + 1) stories)) rows) n
    ∙ (append_assoc old (with_found (look None rows s.id) []) (numbers_on (story_ids (drop (i + 1) stories)) rows)
    ∙ (ap (λ (ks : List ℕ). old ++ ks) (numbers-more rows stories i s g) ∙ h))

drop-end : (stories : List Story) (i : ℕ) → slice_get stories i ≡ None → drop (suc i) stories ≡ drop i stories
drop-end [] zero h = refl
drop-end [] (suc i) h = refl
drop-end (x ∷ xs) zero h = absurd (cc)
drop-end (x ∷ xs) (suc i) h = drop-end xs i h

pub place-none : (rows : List (Text × Option ℕ)) (stories : List Story) (i : ℕ) (all old : List ℕ) → slice_get stories i ≡ None
    → old ++ numbers_on (story_ids (drop i stories)) rows ≡ all → old ++ numbers_on (story_ids (drop (i + 1) stories)) rows ≡ all
place-none rows stories i all old g h =
    ap (λ (ss : List Story). old ++ numbers_on (story_ids ss) rows) (ap (λ (j : ℕ). drop j stories) (let e : i + 1 ≡ suc i = omega arith in e) ∙ drop-end stories i g) ∙ h

-- an order without rows has no numbers
pub numbers-none : (ids : List Text) → numbers_on ids [] ≡ []
numbers-none [] = refl
numbers-none (x ∷ xs) = numbers-none xs

-- whether an identifier stands in the rest of a list
pub among-next : (id x : Text) (xs : List Text) (k : ℕ) → k < length xs → x ≡ get_or xs k x → same_id id x ≡ false → has_id id (drop k xs) ≡ has_id id (drop (k + 1) xs)
among-next id x xs k lt at h = ap (λ l. has_id id l) (drop_more xs k x lt) ∙ ap (λ u. same_id id u || has_id id (drop (k + 1) xs)) (sym at) ∙ ap (λ b. b || has_id id (drop (k + 1) xs)) h

pub among-here : (id x : Text) (xs : List Text) (k : ℕ) → k < length xs → x ≡ get_or xs k x → same_id id x ≡ true → has_id id (drop k xs) ≡ true
among-here id x xs k lt at h = ap (λ l. has_id id l) (drop_more xs k x lt) ∙ ap (λ u. same_id id u || has_id id (drop (k + 1) xs)) (sym at) ∙ ap (λ b. b || has_id id (drop (k + 1) xs)) h

pub among-end : (id : Text) (xs : List Text) (k : ℕ) → length xs ≤ k → has_id id (drop k xs) ≡ false
among-end id xs k le = ap (λ l. has_id id l) (drop_all k xs le)
