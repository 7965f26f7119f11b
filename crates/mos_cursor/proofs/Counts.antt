-- How often each field stands in an accepted record.
use Rattle.std.proofs.Common.{◌≡◌, ℕ, suc, ◌+◌, ◌≤◌, ◌<◌, Bool, true, false, cond, List, [], ◌∷◌, ◌++◌, Option, Some, None, refl, sym, ap, subst, ◌∙◌, append_assoc, arith, inl, inr}
use Rattle.std.specs.Prelude.{◌&&◌, nat_lt, nat_le}
use Rattle.std.specs.List.{AllByRecursion}
use Rattle.std.proofs.lemmas.List.{append-nil}
use Rattle.std.proofs.lemmas.Bool.Decides.{leb_tells}
use Rattle.mos_fields.specs.Characters.{Text}
use Rattle.mos_fields.specs.Fields.{same_field}
use Rattle.mos_fields.specs.declared.field.Field.{Field}
use Rattle.mos_tables.specs.declared.column.Column.{Column}
use Rattle.mos_tables.specs.declared.column.Often.{Often}
use Rattle.mos_tables.specs.declared.column.Often.TheVariants.{One, Optional, Any, Many, Count}
use Rattle.mos_tables.specs.declared.table.Table.{Table}
use Rattle.mos_tables.specs.Events.{Attribute, Event}
use Rattle.mos_tables.specs.Tables.{columns, is_ack}
use Rattle.mos_grammar.specs.Tokens.{Token}
use Rattle.mos_grammar.specs.declared.fault.Fault.{Fault}
use Rattle.mos_grammar.specs.declared.fault.Fault.TheVariants.{Twice as twice, Order as out_of_order}
use Rattle.mos_grammar.specs.Records.{Child, times, seen_behind, seen_from, seen_of, least_count, is_single, is_full, is_named, column_of, before_column, any_seen, lacks, lack_of, lacking, repeated, field_fault, if_field, outside_fault, wanted, end_fault, OpenField, leaf_role, raw_role, record_role, raw_events, nested, Content, ends, white_space, field, empty_leaf, empty_leaf_tag, raw_element, raw_tag, record_element, record_tag}
use Rattle.mos_cursor.proofs.Roles.{no_or_else, IsAdmitted, leaf_is, raw_is, record_is, empty_leaf_is, empty_raw_is, empty_record_is, IsColumn, RawRole, raw_column, raw_message, raw_kept, raw_dropped, RecordRole, record_column, record_message, leaf_says, raw_says, record_says}
use Rattle.mos_cursor.proofs.Columns.{column_with, column_with-same, known_column, table_facts, same_field-first}

-- ---- fields of children

abbrev pub fields_of : List Child → List Field
fields_of [] = []
fields_of (c ∷ cs) = c.0 ∷ fields_of cs

fields_push : (cs : List Child) (c : Child) → fields_of (cs ++ c ∷ []) ≡ fields_of cs ++ c.0 ∷ []
fields_push [] c = refl
fields_push (d ∷ cs) c = ap (λ (z : List Field). d.0 ∷ z) (fields_push cs c)

seen_all : (t : Table) (seen : List Field) (cs : List Child) → is_ack t ≡ false → seen_from t seen cs ≡ seen ++ fields_of cs
seen_all t seen [] h = sym (append-nil seen)
seen_all t seen (c ∷ cs) h =
    let p : seen_behind t seen c.0 ≡ seen ++ c.0 ∷ [] = rw h refl in
    ap (λ (z : List Field). seen_from t z cs) p ∙ seen_all t (seen ++ c.0 ∷ []) cs h ∙ append_assoc seen (c.0 ∷ []) (fields_of cs)

pub seen_is : (t : Table) (cs : List Child) → is_ack t ≡ false → seen_of t cs ≡ fields_of cs
unfolding seen_of
seen_is t cs h = seen_all t [] cs h

four_ways : (b d : Bool) (k : ℕ) → cond b (cond d (k + 1) k + 1) (cond d (k + 1) k) ≡ cond d (cond b (k + 1) k + 1) (cond b (k + 1) k)
four_ways true true k = refl
four_ways true false k = refl
four_ways false true k = refl
four_ways false false k = refl

times_push : (f g : Field) (seen : List Field) → times f (seen ++ g ∷ []) ≡ cond (same_field f g) (times f seen + 1) (times f seen)
times_push f g [] = refl
times_push f g (m ∷ seen) = rw (times_push f g seen) (four_ways (same_field f m) (same_field f g) (times f seen))

-- ---- a further field

abbrev pub Most : Often → ℕ → Type 0
Most One k = k ≤ 1
Most Optional k = k ≤ 1
Most Any k = Unit {0}
Most Many k = Unit {0}
Most (Count m) k = k ≤ m

abbrev pub IsBounded : Table → List Field → Type 0
IsBounded t seen = (f : Field) (c : Column) → column_with (columns t) f ≡ Some c → Most c.often (times f seen)

-- The field may follow those seen.
data NewField (t : Table) (seen : List Field) : Field → Type 0 where
  new_column : (c : Column) → column_with (columns t) c.field ≡ Some c → is_full c.often (times c.field seen) ≡ false → (is_single c.often && nat_lt 0 (times c.field seen)) ≡ false → NewField t seen c.field
  new_other : (f : Field) → column_with (columns t) f ≡ None → NewField t seen f

not_le : (a b : ℕ) → nat_le a b ≡ false → b < a
not_le a b h = elim (leb_tells a b) [ inl p ↦ (let q = p.0 in absurd cc) | inr p ↦ p.1 ]

not_lt : (a b : ℕ) → nat_lt a b ≡ false → b ≤ a
not_lt a b h = elim (leb_tells (suc a) b) [ inl p ↦ (let q = p.0 in absurd cc) | inr p ↦ omega (arith, p.1) ]

no_more : (o : Often) (k : ℕ) → is_full o k ≡ false → (is_single o && nat_lt 0 k) ≡ false → Most o (k + 1)
no_more One k h e = omega (arith, not_le 1 k e)
no_more Optional k h e = omega (arith, not_le 1 k e)
no_more Any k h e = tt
no_more Many k h e = tt
no_more (Count m) k h e = omega (arith, not_le m k h)

times-same : (f g : Field) (seen : List Field) → same_field f g ≡ true → times f seen ≡ times g seen
times-same f g [] e = refl
times-same f g (m ∷ seen) e = rw (same_field-first f g m e, times-same f g seen e) refl

bounded_push : (t : Table) (seen : List Field) (g : Field) → IsBounded t seen → NewField t seen g → IsBounded t (seen ++ g ∷ [])
bounded_push t seen g b new f c k = go (same_field f g) refl new
  where
    other : same_field f g ≡ false → Most c.often (times f (seen ++ g ∷ []))
    other e = subst (Most c.often) (sym (times_push f g seen ∙ rw e refl)) (b f c k)

    go : (v : Bool) → same_field f g ≡ v → NewField t seen g → Most c.often (times f (seen ++ g ∷ []))
    go false e n = other e
    go true e (new_column d kd room single) =
        let p : column_with (columns t) f ≡ Some d = column_with-same (columns t) f d.field e ∙ kd in
        let q : c ≡ d = (let z : Some c ≡ Some d = sym k ∙ p in cc) in
        let same_times : times f seen ≡ times d.field seen = times-same f d.field seen e in
        let w : times f (seen ++ d.field ∷ []) ≡ times d.field seen + 1 = times_push f d.field seen ∙ rw e (ap (λ x. x + 1) same_times) in
        subst (λ (x : Column). Most x.often (times f (seen ++ d.field ∷ []))) (sym q) (subst (Most d.often) (sym w) (no_more d.often (times d.field seen) room single))
    go true e (new_other h absent) =
        let p : column_with (columns t) f ≡ None = column_with-same (columns t) f h e ∙ absent in
        let z : Some c ≡ None = sym k ∙ p in absurd cc

-- ---- what an admitted element says

not_repeated : (cs : List Column) (seen : List Field) (n : Text) (c : Column) → column_of cs n ≡ Some c → repeated cs seen n ≡ None → (is_single c.often && nat_lt 0 (times c.field seen)) ≡ false
not_repeated [] seen n c h e = absurd cc
not_repeated (d ∷ cs) seen n c h e = go (is_named d n) h e (λ a b. not_repeated cs seen n c a b)
  where
    two : (b : Bool) (k : Option Fault) → cond b (Some (twice d.field)) k ≡ None → b ≡ false
    two true k h = absurd cc
    two false k h = refl

    go : (b : Bool) → cond b (Some d) (column_of cs n) ≡ Some c
        → cond b (cond (is_single d.often && nat_lt 0 (times d.field seen)) (Some (twice d.field)) (cond (any_seen cs seen) (Some (out_of_order d.field)) None)) (repeated cs seen n) ≡ None
        → (column_of cs n ≡ Some c → repeated cs seen n ≡ None → (is_single c.often && nat_lt 0 (times c.field seen)) ≡ false) → (is_single c.often && nat_lt 0 (times c.field seen)) ≡ false
    go true h e ih =
        let q : d ≡ c = cc in
        subst (λ (x : Column). (is_single x.often && nat_lt 0 (times x.field seen)) ≡ false) q (two (is_single d.often && nat_lt 0 (times d.field seen)) (cond (any_seen cs seen) (Some (out_of_order d.field)) None) e)
    go false h e ih = ih h e

new_of_column : (t : Table) (before : List Child) (n : Text) (c : Column) → is_ack t ≡ false → outside_fault t before n ≡ None → IsColumn t before n c → NewField t (fields_of before) c.field
new_of_column t before n c a o i =
    let s : seen_of t before ≡ fields_of before = seen_is t before a in
    let F : Option Column → Type 0 = λ (x : Option Column). if_field x (field_fault (columns t) (seen_of t before) n) ≡ None in
    let p : field_fault (columns t) (seen_of t before) n ≡ None = subst F i.named o in
    let q : repeated (columns t) (seen_of t before) n ≡ None = (no_or_else (repeated (columns t) (seen_of t before) n) (lacking (before_column (columns t) n) (seen_of t before)) p).0 in
    let r = not_repeated (columns t) (seen_of t before) n c i.named q in
    new_column c (known_column t n c i.named)
    (subst (λ (x : List Field). is_full c.often (times c.field x) ≡ false) s i.room)
    (subst (λ (x : List Field). (is_single c.often && nat_lt 0 (times c.field x)) ≡ false) s r)

new_leaf : (t : Table) (before : List Child) (n : Text) (g : List Attribute) (o : OpenField) → is_ack t ≡ false → IsAdmitted t before n g (leaf_role o) → NewField t (fields_of before) o.field
new_leaf t before n g o k a =
    let r = leaf_says a in
    subst (λ (p : OpenField). NewField t (fields_of before) p.field) (sym r.field_is) (new_of_column t before n r.column k a.outside r.is_column)

new_raw : (t : Table) (before : List Child) (n : Text) (g : List Attribute) (f : Field) → is_ack t ≡ false → IsAdmitted t before n g (raw_role f) → NewField t (fields_of before) f
new_raw t before n g f k a = go (raw_says a)
  where
    go : RawRole t before n g f → NewField t (fields_of before) f
    go (raw_column c i s e) = subst (NewField t (fields_of before)) (sym e) (new_of_column t before n c k a.outside i)
    go (raw_message c i s e) = subst (NewField t (fields_of before)) (sym e) (new_of_column t before n c k a.outside i)
    go (raw_kept o e) = new_other f (rw e (table_facts t).no_kept)
    go (raw_dropped o e) = new_other f (rw e (table_facts t).no_dropped)

new_record : (t : Table) (before : List Child) (n : Text) (g i : List Attribute) (f : Field) (u : Table) → is_ack t ≡ false → IsAdmitted t before n g (record_role f u i) → NewField t (fields_of before) f
new_record t before n g i f u k a = go (record_says a)
  where
    go : RecordRole t before n g f u i → NewField t (fields_of before) f
    go (record_column c v j s e x y) = subst (NewField t (fields_of before)) (sym e) (new_of_column t before n c k a.outside j)
    go (record_message c j s e x y) = subst (NewField t (fields_of before)) (sym e) (new_of_column t before n c k a.outside j)

child_push : (t : Table) (before : List Child) (f : Field) (es : List Event) → IsBounded t (fields_of before) → NewField t (fields_of before) f → IsBounded t (fields_of (before ++ (f, es) ∷ []))
child_push t before f es b n = subst (IsBounded t) (sym (fields_push before (f, es))) (bounded_push t (fields_of before) f b n)

pub bounded : {t : Table} {taken : List Text} {before all : List Child} {r : List Token} → is_ack t ≡ false → Content t taken before all r → IsBounded t (fields_of before) → IsBounded t (fields_of all)
bounded k (ends h) b = b
bounded k (white_space h d) b = bounded k d b
bounded {t = t} {before = before} k (field {n = n} {g = g} {o = o} {es = es} h e d) b = bounded k d (child_push t before o.field es b (new_leaf t before n g o k (leaf_is h)))
bounded {t = t} {before = before} k (empty_leaf {n = n} {g = g} {o = o} {es = es} h e d) b = bounded k d (child_push t before o.field es b (new_leaf t before n g o k (leaf_is h)))
bounded {t = t} {taken = taken} {before = before} k (empty_leaf_tag {n = n} {g = g} {o = o} {es = es} h e d) b = bounded k d (child_push t before o.field es b (new_leaf t before n g o k (empty_leaf_is taken h)))
bounded {t = t} {before = before} k (raw_element {n = n} {tag = tag} {x = x} {g = g} {f = f} h e d) b = bounded k d (child_push t before f (raw_events f (tag ++ x)) b (new_raw t before n g f k (raw_is h)))
bounded {t = t} {taken = taken} {before = before} k (raw_tag {n = n} {tag = tag} {g = g} {f = f} h d) b = bounded k d (child_push t before f (raw_events f tag) b (new_raw t before n g f k (empty_raw_is taken h)))
bounded {t = t} {before = before} k (record_element {u = u} {inner = inner} {n = n} {g = g} {h = i} {f = f} h d e) b = bounded k e (child_push t before f (nested n i u inner) b (new_record t before n g i f u k (record_is h)))
bounded {t = t} {taken = taken} {before = before} k (record_tag {u = u} {n = n} {g = g} {h = i} {f = f} h e d) b = bounded k d (child_push t before f (nested n i u []) b (new_record t before n g i f u k (empty_record_is taken h)))

-- ---- at least so often

ended : {t : Table} {taken : List Text} {before all : List Child} {r : List Token} → Content t taken before all r → end_fault t all ≡ None
ended (ends h) = h
ended (white_space h d) = ended d
ended (field h e d) = ended d
ended (empty_leaf h e d) = ended d
ended (empty_leaf_tag h e d) = ended d
ended (raw_element h e d) = ended d
ended (raw_tag h d) = ended d
ended (record_element h d e) = ended e
ended (record_tag h e d) = ended d

abbrev pub IsPresent : List Field → Column → Type 0
IsPresent seen c = least_count c.often ≤ times c.field seen

all_present : (cs : List Column) (seen : List Field) → lacking cs seen ≡ None → AllByRecursion (IsPresent seen) cs
all_present [] seen h = tt
all_present (c ∷ cs) seen h = go (lacks c seen) refl h (λ e. all_present cs seen e)
  where
    go : (b : Bool) → lacks c seen ≡ b → cond b (Some (lack_of c.field)) (lacking cs seen) ≡ None → (lacking cs seen ≡ None → AllByRecursion (IsPresent seen) cs) → AllByRecursion (IsPresent seen) (c ∷ cs)
    go true e h ih = absurd cc
    go false e h ih = (not_lt (times c.field seen) (least_count c.often) e, ih h)

pub present : {t : Table} {taken : List Text} {all : List Child} {r : List Token} → is_ack t ≡ false → Content t taken [] all r → AllByRecursion (IsPresent (fields_of all)) (columns t)
unfolding end_fault
present {t = t} {all = all} k d =
    let s : seen_of t all ≡ fields_of all = seen_is t all k in
    let w : wanted t (seen_of t all) ≡ columns t = rw k refl in
    let p : lacking (columns t) (seen_of t all) ≡ None = subst (λ (cs : List Column). lacking cs (seen_of t all) ≡ None) w (ended d) in
    all_present (columns t) (fields_of all) (subst (λ (x : List Field). lacking (columns t) x ≡ None) s p)
