-- What stands in the order of the columns is in that order, and has the same value.
use Rattle.std.proofs.Common.{◌≡◌, Bool, true, false, cond, List, [], ◌∷◌, ◌++◌, refl, sym, ap, ◌∙◌, append_assoc}
use Rattle.std.specs.List.{AllByRecursion, flat_map}
use Rattle.std.proofs.lemmas.List.{append-nil}
use Rattle.std.proofs.lemmas.Grind.{flat_map-append}
use Rattle.mos_fields.specs.Fields.{same_field}
use Rattle.mos_fields.specs.declared.field.Field.{Field}
use Rattle.mos_fields.specs.declared.field.Field.TheVariants as fields
use Rattle.mos_tables.specs.declared.column.Column.{Column}
use Rattle.mos_tables.specs.declared.table.Table.{Table}
use Rattle.mos_tables.specs.Events.{Event}
use Rattle.mos_tables.specs.Tables.{columns, is_ack}
use Rattle.mos_grammar.specs.Records.{Child, flat, found, column_events, arranged}
use Rattle.mos_grammar.proofs.Seen.{or_false, no_true, has, distinct}
use Rattle.mos_grammar.proofs.Complete.{table_facts}
use Rattle.mos_cursor.proofs.Columns.{same_field-same, same_field-sym, same_field-first, same_field-other}
use Rattle.encoding_laws.proofs.Arranged.{put, select, select_flat, written_children, written_flat, by_columns, same_has}
use Rattle.encoding_laws.proofs.Lean.{IsApart}

pub found_append : (f : Field) (xs ys : List Child) → found f (xs ++ ys) ≡ found f xs ++ found f ys
found_append f xs ys = flat_map-append (λ (c : Child). cond (same_field f c.0) c.1 []) xs ys

pub flat_append : (xs ys : List Child) → flat (xs ++ ys) ≡ flat xs ++ flat ys
flat_append xs ys = flat_map-append (λ (c : Child). c.1) xs ys

-- ---- in order

cond_flat : (b : Bool) (k : List Child) (x : List Event) → flat k ≡ x → flat (cond b k []) ≡ cond b x []
cond_flat true k x e = e
cond_flat false k x e = refl

flat_columns : (k : List Child) (all : List Child) (cs : List Column) → flat k ≡ found fields.Kept all → flat (by_columns k cs all) ≡ flat_map (λ (c : Column). column_events c.field all) cs
flat_columns k all [] e = refl
flat_columns k all (c ∷ cs) e =
    let m : List Child = cond (same_field c.field fields.Metadata) k [] in
    let x : List Event = cond (same_field c.field fields.Metadata) (found fields.Kept all) [] in
    flat_append (select c.field all ++ m) (by_columns k cs all)
    ∙ ap (λ (z : List Event). z ++ flat (by_columns k cs all)) (flat_append (select c.field all) m ∙ ap (λ (z : List Event). z ++ flat m) (select_flat c.field all) ∙ ap (λ (z : List Event). found c.field all ++ z) (cond_flat (same_field c.field fields.Metadata) k (found fields.Kept all) e))
    ∙ ap (λ (z : List Event). (found c.field all ++ x) ++ z) (flat_columns k all cs e)

-- the children in the order of the columns
abbrev pub in_order : Table → List Child → List Child
in_order t all = cond (is_ack t) (written_children all) (by_columns (select fields.Kept all) (columns t) all)

pub order_flat : (t : Table) (all : List Child) → flat (in_order t all) ≡ arranged t all
unfolding arranged
order_flat t all = go (is_ack t)
  where
    go : (b : Bool) → flat (cond b (written_children all) (by_columns (select fields.Kept all) (columns t) all)) ≡ cond b (flat all) (flat_map (λ (c : Column). column_events c.field all) (columns t))
    go true = written_flat all
    go false = flat_columns (select fields.Kept all) all (columns t) (select_flat fields.Kept all)

-- ---- what is found there

found_put : (g : Field) (c : Child) (cs : List Child) → found g (put c cs) ≡ cond (same_field g c.0) c.1 [] ++ found g cs
found_put g (f, []) cs = go (same_field g f)
  where
    go : (b : Bool) → found g cs ≡ cond b [] [] ++ found g cs
    go true = refl
    go false = refl
found_put g (f, e ∷ es) cs = refl

-- of the field that is selected
found_same : (g f : Field) (cs : List Child) → same_field g f ≡ true → found g (select f cs) ≡ found g cs
found_same g f [] e = refl
found_same g f (c ∷ cs) e = go (same_field f c.0) refl (found_same g f cs e)
  where
    go : (b : Bool) → same_field f c.0 ≡ b → found g (select f cs) ≡ found g cs → found g (cond b (put c (select f cs)) (select f cs)) ≡ cond (same_field g c.0) c.1 [] ++ found g cs
    go true q ih = found_put g c (select f cs) ∙ ap (λ (z : List Event). cond (same_field g c.0) c.1 [] ++ z) ih
    go false q ih = ih ∙ sym (ap (λ (b : Bool). cond b c.1 [] ++ found g cs) (same_field-first g f c.0 e ∙ q))

-- of another field
found_other : (g f : Field) (cs : List Child) → same_field g f ≡ false → found g (select f cs) ≡ []
found_other g f [] e = refl
found_other g f (c ∷ cs) e = go (same_field f c.0) refl (found_other g f cs e)
  where
    go : (b : Bool) → same_field f c.0 ≡ b → found g (select f cs) ≡ [] → found g (cond b (put c (select f cs)) (select f cs)) ≡ []
    go true q ih = found_put g c (select f cs) ∙ ap (λ (b : Bool). cond b c.1 [] ++ found g (select f cs)) (sym (same_field-other f c.0 g q) ∙ e) ∙ ih
    go false q ih = ih

cond_found : (g : Field) (b : Bool) (k : List Child) → found g k ≡ [] → found g (cond b k []) ≡ []
cond_found g true k e = e
cond_found g false k e = refl

found_column : (g : Field) (k p : List Child) (c : Column) (cs : List Column) → found g (by_columns k (c ∷ cs) p) ≡ (found g (select c.field p) ++ found g (cond (same_field c.field fields.Metadata) k [])) ++ found g (by_columns k cs p)
found_column g k p c cs =
    let m : List Child = cond (same_field c.field fields.Metadata) k [] in
    found_append g (select c.field p ++ m) (by_columns k cs p) ∙ ap (λ (z : List Event). z ++ found g (by_columns k cs p)) (found_append g (select c.field p) m)

false_sym : (f g : Field) → same_field f g ≡ false → same_field g f ≡ false
false_sym f g h = go (same_field g f) refl
  where
    go : (b : Bool) → same_field g f ≡ b → b ≡ false
    go true e = let p = same_field-sym g f e in cc
    go false e = refl

-- a field of none of the columns
found_absent : (g : Field) (k p : List Child) (cs : List Column) → has cs g ≡ false → found g k ≡ [] → found g (by_columns k cs p) ≡ []
found_absent g k p [] h e = refl
found_absent g k p (c ∷ cs) h e =
    let q = or_false (same_field c.field g) (has cs g) h in
    found_column g k p c cs
    ∙ ap (λ (z : List Event). (z ++ found g (cond (same_field c.field fields.Metadata) k [])) ++ found g (by_columns k cs p)) (found_other g c.field p (false_sym c.field g q.0))
    ∙ ap (λ (z : List Event). z ++ found g (by_columns k cs p)) (cond_found g (same_field c.field fields.Metadata) k e)
    ∙ found_absent g k p cs q.1 e

-- a field of one of them
found_present : (g : Field) (k p : List Child) (cs : List Column) → has cs g ≡ true → distinct cs ≡ true → found g k ≡ [] → found g (by_columns k cs p) ≡ found g p
found_present g k p [] h d e = absurd cc
found_present g k p (c ∷ cs) h d e =
    let u = no_true (has cs c.field) (distinct cs) d in
    found_column g k p c cs
    ∙ ap (λ (z : List Event). (found g (select c.field p) ++ z) ++ found g (by_columns k cs p)) (cond_found g (same_field c.field fields.Metadata) k e)
    ∙ ap (λ (z : List Event). z ++ found g (by_columns k cs p)) (append-nil (found g (select c.field p)))
    ∙ go (same_field c.field g) refl h u.0 (λ n. found_present g k p cs n u.1 e)
  where
    go : (b : Bool) → same_field c.field g ≡ b → cond b true (has cs g) ≡ true → has cs c.field ≡ false → (has cs g ≡ true → found g (by_columns k cs p) ≡ found g p) → found g (select c.field p) ++ found g (by_columns k cs p) ≡ found g p
    go true q h n ih =
        let s : same_field g c.field ≡ true = same_field-sym c.field g q in
        ap (λ (z : List Event). found g (select c.field p) ++ z) (found_absent g k p cs (same_has cs c.field g q ∙ n) e) ∙ append-nil (found g (select c.field p)) ∙ found_same g c.field p s
    go false q h n ih = ap (λ (z : List Event). z ++ found g (by_columns k cs p)) (found_other g c.field p (false_sym c.field g q)) ∙ ih h

-- the elements of other names
found_put_in : (k p : List Child) (cs : List Column) → has cs fields.Kept ≡ false → has cs fields.Metadata ≡ true → distinct cs ≡ true → found fields.Kept (by_columns k cs p) ≡ found fields.Kept k
found_put_in k p [] h m d = absurd cc
found_put_in k p (c ∷ cs) h m d =
    let q = or_false (same_field c.field fields.Kept) (has cs fields.Kept) h in
    let u = no_true (has cs c.field) (distinct cs) d in
    found_column fields.Kept k p c cs
    ∙ ap (λ (z : List Event). (z ++ found fields.Kept (cond (same_field c.field fields.Metadata) k [])) ++ found fields.Kept (by_columns k cs p)) (found_other fields.Kept c.field p (false_sym c.field fields.Kept q.0))
    ∙ go (same_field c.field fields.Metadata) refl m u.0 (λ n. found_put_in k p cs q.1 n u.1) (λ n. found_rest cs q.1 n)
  where
    found_rest : (ds : List Column) → has ds fields.Kept ≡ false → has ds fields.Metadata ≡ false → found fields.Kept (by_columns k ds p) ≡ []
    found_rest [] h n = refl
    found_rest (d ∷ ds) h n =
        let a = or_false (same_field d.field fields.Kept) (has ds fields.Kept) h in
        let b = or_false (same_field d.field fields.Metadata) (has ds fields.Metadata) n in
        found_column fields.Kept k p d ds
        ∙ ap (λ (z : List Event). (z ++ found fields.Kept (cond (same_field d.field fields.Metadata) k [])) ++ found fields.Kept (by_columns k ds p)) (found_other fields.Kept d.field p (false_sym d.field fields.Kept a.0))
        ∙ ap (λ (x : Bool). found fields.Kept (cond x k []) ++ found fields.Kept (by_columns k ds p)) b.0
        ∙ found_rest ds a.1 b.1

    go : (b : Bool) → same_field c.field fields.Metadata ≡ b → cond b true (has cs fields.Metadata) ≡ true → has cs c.field ≡ false → (has cs fields.Metadata ≡ true → found fields.Kept (by_columns k cs p) ≡ found fields.Kept k)
        → (has cs fields.Metadata ≡ false → found fields.Kept (by_columns k cs p) ≡ []) → found fields.Kept (cond b k []) ++ found fields.Kept (by_columns k cs p) ≡ found fields.Kept k
    go true q m n ih rest = ap (λ (z : List Event). found fields.Kept k ++ z) (rest (same_has cs c.field fields.Metadata q ∙ n)) ∙ append-nil (found fields.Kept k)
    go false q m n ih rest = ih m

-- ---- the same value

pub apart_of : (f : Field) (cs : List Column) → has cs f ≡ false → AllByRecursion (IsApart f) cs
apart_of f [] h = tt
apart_of f (c ∷ cs) h = let q = or_false (same_field c.field f) (has cs f) h in (q.0, apart_of f cs q.1)

has_here : (ps : List Column) (c : Column) (cs : List Column) → has (ps ++ c ∷ cs) c.field ≡ true
has_here [] c cs = rw (same_field-same c.field) refl
has_here (p ∷ ps) c cs = go (same_field p.field c.field) (has_here ps c cs)
  where
    go : (b : Bool) → has (ps ++ c ∷ cs) c.field ≡ true → cond b true (has (ps ++ c ∷ cs) c.field) ≡ true
    go true ih = refl
    go false ih = ih

same_columns : (all : List Child) (ks ps cs : List Column) → ks ≡ ps ++ cs → distinct ks ≡ true → has ks fields.Kept ≡ false → AllByRecursion (IsApart fields.Kept) cs
    → flat_map (λ (c : Column). column_events c.field (by_columns (select fields.Kept all) ks all)) cs ≡ flat_map (λ (c : Column). column_events c.field all) cs
same_columns all ks ps [] e d h a = refl
same_columns all ks ps (c ∷ cs) e d h a =
    let k : List Child = select fields.Kept all in
    let x : List Child = by_columns k ks all in
    let here : has ks c.field ≡ true = ap (λ (z : List Column). has z c.field) e ∙ has_here ps c cs in
    let one : found c.field x ≡ found c.field all = found_present c.field k all ks here d (found_other c.field fields.Kept all a.0) in
    let two : cond (same_field c.field fields.Metadata) (found fields.Kept x) [] ≡ cond (same_field c.field fields.Metadata) (found fields.Kept all) [] = go (same_field c.field fields.Metadata) refl here in
    ap (λ (z : List Event). (z ++ cond (same_field c.field fields.Metadata) (found fields.Kept x) []) ++ flat_map (λ (c : Column). column_events c.field x) cs) one
    ∙ ap (λ (z : List Event). (found c.field all ++ z) ++ flat_map (λ (c : Column). column_events c.field x) cs) two
    ∙ ap (λ (z : List Event). (found c.field all ++ cond (same_field c.field fields.Metadata) (found fields.Kept all) []) ++ z) (same_columns all ks (ps ++ c ∷ []) cs (e ∙ sym (append_assoc ps (c ∷ []) cs)) d h a.1)
  where
    go : (b : Bool) → same_field c.field fields.Metadata ≡ b → has ks c.field ≡ true → cond b (found fields.Kept (by_columns (select fields.Kept all) ks all)) [] ≡ cond b (found fields.Kept all) []
    go true q n = found_put_in (select fields.Kept all) all ks h (same_has ks c.field fields.Metadata q ∙ n) d ∙ found_same fields.Kept fields.Kept all refl
    go false q n = refl

pub order_again : (t : Table) (all : List Child) → arranged t (in_order t all) ≡ arranged t all
unfolding arranged
order_again t all = go (is_ack t)
  where
    go : (b : Bool) → cond b (flat (cond b (written_children all) (by_columns (select fields.Kept all) (columns t) all))) (flat_map (λ (c : Column). column_events c.field (cond b (written_children all) (by_columns (select fields.Kept all) (columns t) all))) (columns t)) ≡ cond b (flat all) (flat_map (λ (c : Column). column_events c.field all) (columns t))
    go true = written_flat all
    go false = same_columns all (columns t) [] (columns t) refl (table_facts t).0 (table_facts t).3 (apart_of fields.Kept (columns t) (table_facts t).3)
