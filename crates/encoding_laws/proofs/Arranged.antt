-- The children of a record in the order of its columns, those of other names behind mosExternalMetadata.
use Rattle.std.proofs.Common.{◌≡◌, ◌+◌, Bool, true, false, cond, List, [], ◌∷◌, ◌++◌, refl, sym, ap, ◌∙◌, append_assoc, arith}
use Rattle.std.specs.Prelude.{nat_lt}
use Rattle.std.specs.List.{flat_map}
use Rattle.std.proofs.lemmas.List.{append-nil}
use Rattle.std.proofs.lemmas.Grind.{flat_map-append}
use Rattle.std.proofs.lemmas.Bool.{lt-ltb}
use Rattle.mos_fields.specs.Fields.{same_field}
use Rattle.mos_fields.specs.declared.field.Field.{Field}
use Rattle.mos_fields.specs.declared.field.Field.TheVariants as fields
use Rattle.mos_tables.specs.declared.column.Column.{Column}
use Rattle.mos_tables.specs.Events.{Event}
use Rattle.mos_grammar.specs.Records.{Child, times, any_seen, flat, found}
use Rattle.mos_grammar.proofs.Seen.{or_false, no_true, has, distinct}
use Rattle.mos_cursor.proofs.Counts.{fields_of}
use Rattle.mos_cursor.proofs.Columns.{same_field-other}

-- ---- the children of a field that add something

-- a child in front, unless it adds nothing
abbrev pub put : Child → List Child → List Child
put (f, []) cs = cs
put (f, e ∷ es) cs = (f, e ∷ es) ∷ cs

abbrev pub select : Field → List Child → List Child
select f [] = []
select f (c ∷ cs) = cond (same_field f c.0) (put c (select f cs)) (select f cs)

-- all that add something
abbrev pub written_children : List Child → List Child
written_children [] = []
written_children (c ∷ cs) = put c (written_children cs)

put_flat : (c : Child) (cs : List Child) → flat (put c cs) ≡ c.1 ++ flat cs
put_flat (f, []) cs = refl
put_flat (f, e ∷ es) cs = refl

pub select_flat : (f : Field) (cs : List Child) → flat (select f cs) ≡ found f cs
select_flat f [] = refl
select_flat f (c ∷ cs) = go (same_field f c.0) (select_flat f cs)
  where
    go : (b : Bool) → flat (select f cs) ≡ found f cs → flat (cond b (put c (select f cs)) (select f cs)) ≡ cond b c.1 [] ++ found f cs
    go true ih = put_flat c (select f cs) ∙ ap (λ (z : List Event). c.1 ++ z) ih
    go false ih = ih

pub written_flat : (cs : List Child) → flat (written_children cs) ≡ flat cs
written_flat [] = refl
written_flat (c ∷ cs) = put_flat c (written_children cs) ∙ ap (λ (z : List Event). c.1 ++ z) (written_flat cs)

put_append : (c : Child) (xs ys : List Child) → put c (xs ++ ys) ≡ put c xs ++ ys
put_append (f, []) xs ys = refl
put_append (f, e ∷ es) xs ys = refl

select_append : (f : Field) (xs ys : List Child) → select f (xs ++ ys) ≡ select f xs ++ select f ys
select_append f [] ys = refl
select_append f (c ∷ xs) ys = go (same_field f c.0) (select_append f xs ys)
  where
    go : (b : Bool) → select f (xs ++ ys) ≡ select f xs ++ select f ys → cond b (put c (select f (xs ++ ys))) (select f (xs ++ ys)) ≡ cond b (put c (select f xs)) (select f xs) ++ select f ys
    go true ih = ap (put c) ih ∙ put_append c (select f xs) (select f ys)
    go false ih = ih

pub written_append : (xs ys : List Child) → written_children (xs ++ ys) ≡ written_children xs ++ written_children ys
written_append [] ys = refl
written_append (c ∷ xs) ys = ap (put c) (written_append xs ys) ∙ put_append c (written_children xs) (written_children ys)

-- one more child of another field
select_other : (f : Field) (p : List Child) (c : Child) → same_field f c.0 ≡ false → select f (p ++ c ∷ []) ≡ select f p
select_other f p c e = select_append f p (c ∷ []) ∙ ap (λ (z : List Child). select f p ++ z) (rw e refl) ∙ append-nil (select f p)

-- or of this one
select_push : (f : Field) (p : List Child) (c : Child) → same_field f c.0 ≡ true → select f (p ++ c ∷ []) ≡ select f p ++ put c []
select_push f p c e = select_append f p (c ∷ []) ∙ ap (λ (z : List Child). select f p ++ z) (rw e refl)

unseen_none : (f : Field) (p : List Child) → nat_lt 0 (times f (fields_of p)) ≡ false → select f p ≡ []
unseen_none f [] e = refl
unseen_none f (c ∷ p) e = go (same_field f c.0) e (λ k. unseen_none f p k)
  where
    go : (b : Bool) → nat_lt 0 (cond b (times f (fields_of p) + 1) (times f (fields_of p))) ≡ false → (nat_lt 0 (times f (fields_of p)) ≡ false → select f p ≡ []) → cond b (put c (select f p)) (select f p) ≡ []
    go true e ih = let k : nat_lt 0 (times f (fields_of p) + 1) ≡ true = lt-ltb 0 (times f (fields_of p) + 1) (omega arith) in let z : true ≡ false = sym k ∙ e in absurd cc
    go false e ih = ih e

pub same_has : (ds : List Column) (f g : Field) → same_field f g ≡ true → has ds g ≡ has ds f
same_has [] f g q = refl
same_has (d ∷ ds) f g q = rw (same_field-other f g d.field q, same_has ds f g q) refl

-- ---- by columns

-- the children of a column, and behind mosExternalMetadata these
abbrev pub of_column : List Child → List Child → Column → List Child
of_column k p c = select c.field p ++ cond (same_field c.field fields.Metadata) k []

abbrev pub by_columns : List Child → List Column → List Child → List Child
by_columns k cs p = flat_map (of_column k p) cs

-- a child of none of the columns changes nothing
pub columns_other : (k : List Child) (cs : List Column) (p : List Child) (c : Child) → has cs c.0 ≡ false → by_columns k cs (p ++ c ∷ []) ≡ by_columns k cs p
columns_other k [] p c h = refl
columns_other k (d ∷ cs) p c h =
    let q = or_false (same_field d.field c.0) (has cs c.0) h in
    ap (λ (z : List Child). z ++ cond (same_field d.field fields.Metadata) k [] ++ by_columns k cs (p ++ c ∷ [])) (select_other d.field p c q.0)
    ∙ ap (λ (z : List Child). select d.field p ++ cond (same_field d.field fields.Metadata) k [] ++ z) (columns_other k cs p c q.1)

-- columns that were not seen have no children
columns_unseen : (k : List Child) (cs : List Column) (p : List Child) → any_seen cs (fields_of p) ≡ false → (has cs fields.Metadata ≡ true → k ≡ []) → by_columns k cs p ≡ []
columns_unseen k [] p h m = refl
columns_unseen k (d ∷ cs) p h m =
    let q = or_false (nat_lt 0 (times d.field (fields_of p))) (any_seen cs (fields_of p)) h in
    go (same_field d.field fields.Metadata) (unseen_none d.field p q.0) m (λ n. columns_unseen k cs p q.1 n)
  where
    go : (b : Bool) → select d.field p ≡ [] → (cond b true (has cs fields.Metadata) ≡ true → k ≡ []) → ((has cs fields.Metadata ≡ true → k ≡ []) → by_columns k cs p ≡ []) → select d.field p ++ cond b k [] ++ by_columns k cs p ≡ []
    go true s m ih =
        let e : k ≡ [] = m refl in
        ap (λ (z : List Child). z ++ k ++ by_columns k cs p) s ∙ ap (λ (z : List Child). z ++ by_columns k cs p) e ∙ ih (λ n. e)
    go false s m ih = ap (λ (z : List Child). z ++ [] ++ by_columns k cs p) s ∙ ih m

columns_cut : (k : List Child) (ps cs : List Column) (p : List Child) → by_columns k (ps ++ cs) p ≡ by_columns k ps p ++ by_columns k cs p
columns_cut k ps cs p = flat_map-append (of_column k p) ps cs

-- one more child of a column, where no later column was seen
pub columns_push : (k : List Child) (ps : List Column) (c : Column) (cs : List Column) (p : List Child) (x : Child) → same_field c.field x.0 ≡ true → has ps x.0 ≡ false → has cs x.0 ≡ false
    → any_seen cs (fields_of p) ≡ false → (has (c ∷ cs) fields.Metadata ≡ true → k ≡ []) → by_columns k (ps ++ c ∷ cs) (p ++ x ∷ []) ≡ by_columns k (ps ++ c ∷ cs) p ++ put x []
columns_push k ps c cs p x e h l u m =
    let before = columns_other k ps p x h in
    let after : by_columns k cs (p ++ x ∷ []) ≡ [] = columns_other k cs p x l ∙ columns_unseen k cs p u (λ n. m (later n)) in
    let after2 : by_columns k cs p ≡ [] = columns_unseen k cs p u (λ n. m (later n)) in
    let one : of_column k (p ++ x ∷ []) c ≡ select c.field p ++ put x [] = ap (λ (z : List Child). z ++ cond (same_field c.field fields.Metadata) k []) (select_push c.field p x e) ∙ ap (λ (z : List Child). (select c.field p ++ put x []) ++ z) none ∙ append-nil (select c.field p ++ put x []) in
    let two : of_column k p c ≡ select c.field p = ap (λ (z : List Child). select c.field p ++ z) none ∙ append-nil (select c.field p) in
    columns_cut k ps (c ∷ cs) (p ++ x ∷ [])
    ∙ ap (λ (z : List Child). z ++ (of_column k (p ++ x ∷ []) c ++ by_columns k cs (p ++ x ∷ []))) before
    ∙ ap (λ (z : List Child). by_columns k ps p ++ (of_column k (p ++ x ∷ []) c ++ z)) after
    ∙ ap (λ (z : List Child). by_columns k ps p ++ z) (append-nil (of_column k (p ++ x ∷ []) c))
    ∙ ap (λ (z : List Child). by_columns k ps p ++ z) one
    ∙ sym (append_assoc (by_columns k ps p) (select c.field p) (put x []))
    ∙ ap (λ (z : List Child). (by_columns k ps p ++ z) ++ put x []) (sym two)
    ∙ ap (λ (z : List Child). (by_columns k ps p ++ z) ++ put x []) (sym (append-nil (of_column k p c)))
    ∙ ap (λ (z : List Child). (by_columns k ps p ++ (of_column k p c ++ z)) ++ put x []) (sym after2)
    ∙ ap (λ (z : List Child). z ++ put x []) (sym (columns_cut k ps (c ∷ cs) p))
  where
    later : has cs fields.Metadata ≡ true → has (c ∷ cs) fields.Metadata ≡ true
    later n = two (same_field c.field fields.Metadata)
      where
        two : (b : Bool) → cond b true (has cs fields.Metadata) ≡ true
        two true = refl
        two false = n

    none : cond (same_field c.field fields.Metadata) k [] ≡ []
    none = go (same_field c.field fields.Metadata) refl
      where
        go : (b : Bool) → same_field c.field fields.Metadata ≡ b → cond b k [] ≡ []
        go true q = m (rw q refl)
        go false q = refl

-- the columns behind that of mosExternalMetadata
abbrev pub behind_metadata : List Column → List Column
behind_metadata [] = []
behind_metadata (c ∷ cs) = cond (same_field c.field fields.Metadata) cs (behind_metadata cs)

without : (k : List Child) (cs : List Column) (p : List Child) → has cs fields.Metadata ≡ false → by_columns k cs p ≡ by_columns [] cs p
without k [] p h = refl
without k (c ∷ cs) p h =
    let q = or_false (same_field c.field fields.Metadata) (has cs fields.Metadata) h in
    rw q.0 (ap (λ (z : List Child). select c.field p ++ [] ++ z) (without k cs p q.1))

-- these are put in behind all, where no column behind mosExternalMetadata has children
pub columns_put : (k : List Child) (cs : List Column) (p : List Child) → distinct cs ≡ true → by_columns [] (behind_metadata cs) p ≡ [] → by_columns k cs p ≡ by_columns [] cs p ++ cond (has cs fields.Metadata) k []
columns_put k [] p d h = refl
columns_put k (c ∷ cs) p d h =
    let u = no_true (has cs c.field) (distinct cs) d in
    go (same_field c.field fields.Metadata) refl h (λ e. columns_put k cs p u.1 e) u.0
  where
    go : (b : Bool) → same_field c.field fields.Metadata ≡ b → by_columns [] (cond b cs (behind_metadata cs)) p ≡ [] → (by_columns [] (behind_metadata cs) p ≡ [] → by_columns k cs p ≡ by_columns [] cs p ++ cond (has cs fields.Metadata) k [])
        → has cs c.field ≡ false → select c.field p ++ cond b k [] ++ by_columns k cs p ≡ (select c.field p ++ cond b [] [] ++ by_columns [] cs p) ++ cond (cond b true (has cs fields.Metadata)) k []
    go true e h ih u =
        let n : has cs fields.Metadata ≡ false = same_has cs c.field fields.Metadata e ∙ u in
        let none : by_columns k cs p ≡ [] = without k cs p n ∙ h in
        ap (λ (z : List Child). select c.field p ++ k ++ z) none ∙ append-nil (select c.field p ++ k)
        ∙ sym (ap (λ (z : List Child). (select c.field p ++ [] ++ z) ++ k) h ∙ ap (λ (z : List Child). z ++ k) (append-nil (select c.field p ++ [])) ∙ ap (λ (z : List Child). z ++ k) (append-nil (select c.field p)))
    go false e h ih u =
        ap (λ (z : List Child). select c.field p ++ [] ++ z) (ih h) ∙ sym (append_assoc (select c.field p ++ []) (by_columns [] cs p) (cond (has cs fields.Metadata) k []))

-- a child that adds nothing changes nothing
pub columns_nothing : (k : List Child) (cs : List Column) (p : List Child) (f : Field) → by_columns k cs (p ++ (f, []) ∷ []) ≡ by_columns k cs p
columns_nothing k [] p f = refl
columns_nothing k (d ∷ cs) p f =
    ap (λ (z : List Child). z ++ cond (same_field d.field fields.Metadata) k [] ++ by_columns k cs (p ++ (f, []) ∷ [])) (select_append d.field p ((f, []) ∷ []) ∙ ap (λ (z : List Child). select d.field p ++ z) (go (same_field d.field f)) ∙ append-nil (select d.field p))
    ∙ ap (λ (z : List Child). select d.field p ++ cond (same_field d.field fields.Metadata) k [] ++ z) (columns_nothing k cs p f)
  where
    go : (b : Bool) → cond {A = List Child} b (put (f, []) []) [] ≡ []
    go true = refl
    go false = refl

pub columns_none : (cs : List Column) → by_columns [] cs [] ≡ []
columns_none [] = refl
columns_none (d ∷ cs) = ap (λ (z : List Child). z ++ by_columns [] cs []) (go (same_field d.field fields.Metadata)) ∙ columns_none cs
  where
    go : (b : Bool) → cond {A = List Child} b [] [] ≡ []
    go true = refl
    go false = refl
