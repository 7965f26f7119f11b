-- The rows of the orders that a listing tells.
use Rattle.std.proofs.Common.{◌≡◌, ℕ, zero, suc, ◌+◌, ◌≤◌, List, [], ◌∷◌, length, drop, slice_get, Bool, true, false, ◌||◌, ◌&&◌, Some, Result, Ok, Err, OnOk, IfOk, if◌then◌else◌, refl, sym, ap, ◌∙◌, subst, arith}
use Rattle.mos_edits.specs.Texts.{Text, same_id, has_id}
use Rattle.mos_edits.specs.Entries.{Entry, is_before, insert_id}
use Rattle.mos_edits.proofs.Identifiers.{same-true}
use Rattle.mos_machines.specs.Tables.{look, put_row, row_ids}
use Rattle.mos_machines.proofs.RowTables.{ids-put}
use Rattle.mos_machines.specs.Server.{View}
use Rattle.mos_machines.specs.Server.View.{Out, Listed, In, From}
use Rattle.order_table.specs.Rows.{IsAscending}
use Rattle.server_peer.specs.Parts.{shown_view}
use Rattle.server_peer.specs.declared.view.View.TheVariants as seens
use Rattle.ncs_core.specs.Listed.{has_entry, is_seen, IsListOf}

-- ---- tests

or-again : (a b : Bool) → (a || b) ≡ ((a || b) || a)
or-again true b = refl
or-again false true = refl
or-again false false = refl

or-last : (a b : Bool) → (a || b) ≡ (b || a)
or-last true true = refl
or-last true false = refl
or-last false true = refl
or-last false false = refl

or-join : (a b c : Bool) → (a || (b || c)) ≡ ((a || b) || c)
or-join true b c = refl
or-join false b c = refl

and-split : (a b c d : Bool) → ((a || (b && d)) || (c && d)) ≡ (a || ((b || c) && d))
and-split true b c d = refl
and-split false true c true = refl
and-split false true true false = refl
and-split false true false false = refl
and-split false false c d = refl

or-nothing : (a : Bool) → (a || false) ≡ a
or-nothing true = refl
or-nothing false = refl

-- ---- one more row

pub has-insert : (q r : Text) (ids : List Text) → has_id q (insert_id r ids) ≡ (has_id q ids || same_id q r)
has-insert q r [] = or-nothing (same_id q r)
has-insert q r (x ∷ xs) = by (same_id r x) refl (is_before r x) (has-insert q r xs)
  where
    by : (b : Bool) → same_id r x ≡ b → (c : Bool) → has_id q (insert_id r xs) ≡ (has_id q xs || same_id q r)
        → has_id q (if b then x ∷ xs else (if c then r ∷ (x ∷ xs) else x ∷ insert_id r xs)) ≡ ((same_id q x || has_id q xs) || same_id q r)
    by true s c i = subst (λ (z : Text). (same_id q x || has_id q xs) ≡ ((same_id q x || has_id q xs) || same_id q z)) (sym (same-true r x s)) (or-again (same_id q x) (has_id q xs))
    by false s true i = or-last (same_id q r) (same_id q x || has_id q xs)
    by false s false i = ap (λ (h : Bool). same_id q x || h) i ∙ or-join (same_id q x) (has_id q xs) (same_id q r)

pub has-put : {X : Type 0} (q r : Text) (v : X) (old new : List (Text × X)) → new ≡ put_row r v old → has_id q (row_ids new) ≡ (has_id q (row_ids old) || same_id q r)
has-put {X = X} q r v old new e = ap (λ (rows : List (Text × X)). has_id q (row_ids rows)) e ∙ (ap (has_id q) (ids-put old r v) ∙ has-insert q r (row_ids old))

-- ---- over a list

drop-at : {X : Type 0} (xs : List X) (i : ℕ) (x : X) → slice_get xs i ≡ Some x → drop i xs ≡ x ∷ drop (suc i) xs
drop-at [] i x e = absurd (cc)
drop-at (y ∷ ys) zero x e = ap (λ z. z ∷ ys) (let f : y ≡ x = cc in f)
drop-at (y ∷ ys) (suc i) x e = drop-at ys i x e

pub drop-next : {X : Type 0} (xs : List X) (i : ℕ) (x : X) → slice_get xs i ≡ Some x → drop i xs ≡ x ∷ drop (i + 1) xs
drop-next xs i x e = drop-at xs i x e ∙ ap (λ n. x ∷ drop n xs) (let n : suc i ≡ i + 1 = omega arith in n)

drop-none : {X : Type 0} (xs : List X) (i : ℕ) → length xs ≤ i → drop i xs ≡ []
drop-none [] zero h = refl
drop-none [] (suc i) h = refl
drop-none (x ∷ xs) zero h = absurd (omega arith)
drop-none (x ∷ xs) (suc i) h = drop-none xs i (omega arith)

-- the order of one more entry has a row
pub entered-step : {X : Type 0} (q : Text) (journal : List Entry) (i : ℕ) (e : Entry) (v : X) (old new : List (Text × X)) → slice_get journal i ≡ Some e → new ≡ put_row e.ro v old
    → (has_id q (row_ids new) || has_entry (drop (i + 1) journal) q) ≡ (has_id q (row_ids old) || has_entry (drop i journal) q)
entered-step q journal i e v old new at is =
    ap (λ (h : Bool). h || has_entry (drop (i + 1) journal) q) (has-put q e.ro v old new is)
    ∙ (sym (or-join (has_id q (row_ids old)) (same_id q e.ro) (has_entry (drop (i + 1) journal) q))
    ∙ ap (λ (es : List Entry). has_id q (row_ids old) || has_entry es q) (sym (drop-next journal i e at)))

-- the order of one more view has a row, where something is seen of it
pub seen-step : (q : Text) (ids old new : List Text) (i : ℕ) (x : Text) (seen : Bool) → slice_get ids i ≡ Some x → has_id q new ≡ (has_id q old || (same_id q x && seen))
    → (has_id q new || (has_id q (drop (i + 1) ids) && seen)) ≡ (has_id q old || (has_id q (drop i ids) && seen))
seen-step q ids old new i x seen at is =
    ap (λ (h : Bool). h || (has_id q (drop (i + 1) ids) && seen)) is
    ∙ (and-split (has_id q old) (same_id q x) (has_id q (drop (i + 1) ids)) seen
    ∙ ap (λ (xs : List Text). has_id q old || (has_id q xs && seen)) (sym (drop-next ids i x at)))

-- a view of which something is seen has a row
pub seen-known : (q : Text) (rows : List (Text × View)) → (has_id q (row_ids rows) && is_seen (look Out rows q)) ≡ is_seen (look Out rows q)
seen-known q [] = refl
seen-known q (x ∷ xs) = by (same_id q x.0) (seen-known q xs)
  where
    by : (b : Bool) → (has_id q (row_ids xs) && is_seen (look Out xs q)) ≡ is_seen (look Out xs q)
        → ((b || has_id q (row_ids xs)) && is_seen (if b then x.1 else look Out xs q)) ≡ is_seen (if b then x.1 else look Out xs q)
    by true i = refl
    by false i = i

-- all views were gone over
pub seen-end : (q : Text) (rows : List (Text × View)) (old new : List Text) (i : ℕ) → length (row_ids rows) ≤ i
    → (has_id q new || (has_id q (drop i (row_ids rows)) && is_seen (look Out rows q))) ≡ (has_id q old || (has_id q (row_ids rows) && is_seen (look Out rows q)))
    → has_id q new ≡ (has_id q old || is_seen (look Out rows q))
seen-end q rows old new i past is =
    sym (or-nothing (has_id q new))
    ∙ (ap (λ (ids : List Text). has_id q new || (has_id q ids && is_seen (look Out rows q))) (sym (drop-none (row_ids rows) i past))
    ∙ (is ∙ ap (λ (b : Bool). has_id q old || b) (seen-known q rows)))

-- the view of this order alone
pub seen-put : {X : Type 0} (q r : Text) (v : X) (old new : List (Text × X)) (views : Text → View) → new ≡ put_row r v old → is_seen (views r) ≡ true → has_id q (row_ids new) ≡ (has_id q (row_ids old) || (same_id q r && is_seen (views q)))
seen-put q r v old new views is seen = has-put q r v old new is ∙ by (same_id q r) refl
  where
    by : (b : Bool) → same_id q r ≡ b → (has_id q (row_ids old) || b) ≡ (has_id q (row_ids old) || (b && is_seen (views q)))
    by true s = ap (λ (h : Bool). has_id q (row_ids old) || h) (sym (subst (λ (z : Text). is_seen (views z) ≡ true) (sym (same-true q r s)) seen))
    by false s = refl

pub seen-none : (q r : Text) (ids : List Text) (views : Text → View) → is_seen (views r) ≡ false → has_id q ids ≡ (has_id q ids || (same_id q r && is_seen (views q)))
seen-none q r ids views none = sym (ap (λ (h : Bool). has_id q ids || h) (by (same_id q r) refl) ∙ or-nothing (has_id q ids))
  where
    by : (b : Bool) → same_id q r ≡ b → (b && is_seen (views q)) ≡ false
    by true s = subst (λ (z : Text). is_seen (views z) ≡ false) (sym (same-true q r s)) none
    by false s = refl

-- ---- what the calls promise

pub seen-none-shown : (v : View) → shown_view v ≡ seens.Out → is_seen v ≡ false
seen-none-shown Out e = refl
seen-none-shown (Listed m ks) e = absurd (cc)
seen-none-shown (In n again ks) e = absurd (cc)
seen-none-shown (From k) e = absurd (cc)

pub seen-other : (v : View) → (shown_view v ≡ seens.Out → ⊥) → is_seen v ≡ true
seen-other Out n = absurd (n refl)
seen-other (Listed m ks) n = refl
seen-other (In m again ks) n = refl
seen-other (From k) n = refl

pub seen-told : {A E X : Type 0} (o : Result A E) (r : Text) (v : X) (old new : List (Text × X)) (views : Text → View) → is_seen (views r) ≡ true → OnOk o (new ≡ put_row r v old)
    → OnOk o ((q : Text) → has_id q (row_ids new) ≡ (has_id q (row_ids old) || (same_id q r && is_seen (views q))))
seen-told (Ok a) r v old new views seen is = λ q. seen-put q r v old new views is seen
seen-told (Err e) r v old new views seen is = tt

-- rows added to none
pub has-added : {X : Type 0} (q : Text) (rows : List (Text × X)) (b : Bool) → rows ≡ [] → (has_id q (row_ids rows) || b) ≡ b
has-added {X = X} q rows b e = ap (λ (xs : List (Text × X)). has_id q (row_ids xs) || b) e

-- the roIDs of the rows, or there was no memory
pub listed : {A E : Type 0} (items : A → List Text) (test : Text → Bool) (known told : List Text) (o : Result A E) → told ≡ known → IsAscending known → ((r : Text) → has_id r known ≡ test r) → IfOk o (λ (a : A). items a ≡ told)
    → IfOk o (λ (a : A). IsListOf test (items a))
listed items test known told (Ok a) same h all e = record {
  ascending = subst IsAscending (sym (e ∙ same)) h;
  all = λ r. ap (has_id r) (e ∙ same) ∙ all r;
}
listed items test known told (Err f) same h all e = tt
