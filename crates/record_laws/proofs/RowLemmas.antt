-- What the machine's tests show is what the rows say.
use Rattle.std.proofs.Common.{◌≡◌, ℕ, ◌≤◌, Bool, true, false, cond, List, [], ◌∷◌, ◌++◌, Option, Some, refl, sym, ap, subst, ◌∙◌, arith, ◌⊎◌, inl, inr}
use Rattle.std.specs.Prelude.{◌&&◌, nat_lt}
use Rattle.std.proofs.lemmas.Bool.Decides.{nat_tests}
use Rattle.mos_fields.specs.declared.field.Field.{Field}
use Rattle.mos_fields.specs.declared.field.Field.TheVariants as fields
use Rattle.mos_fields.specs.Characters.{Text}
use Rattle.mos_fields.specs.Fields.{same_field}
use Rattle.mos_tables.specs.declared.column.Column.{Column}
use Rattle.mos_tables.specs.declared.column.Often.{Often}
use Rattle.mos_tables.specs.declared.column.Often.TheVariants.{One, Optional, Any, Many, Count}
use Rattle.mos_grammar.specs.declared.fault.Fault.{Fault}
use Rattle.mos_grammar.specs.declared.fault.Fault.TheVariants.{Twice as twice, Order as out_of_order, Missing as missing, Value as wrong_value, Tag as misplaced}
use Rattle.mos_grammar.specs.Records.{times, least_count, is_single, is_full, is_named, column_of, before_column, any_seen, lacks, lack_of, lacking}
use Rattle.mos_grammar.specs.Kinds.{later_columns, FieldShows, shows_twice, shows_order, shows_missing}
use Rattle.record_laws.specs.Rows.{Stands, IsSingle, IsEnough, IsAll, SomeStands, AllEnough, NoneNamed, IsColumn, LacksFirst, IsMissing, FieldRow, EndRow}
use Rattle.record_laws.proofs.Filled.{some_column}

-- ---- tests of how often a field stands

single_is : (o : Often) (k : ℕ) → (is_single o && nat_lt 0 k) ≡ true → IsSingle o × (1 ≤ k)
single_is One k h = (tt, grind (arith, nat_tests, h))
single_is Optional k h = (tt, grind (arith, nat_tests, h))
single_is Any k h = absurd cc
single_is Many k h = absurd cc
single_is (Count m) k h = absurd cc

is_single_one : (o : Often) (k : ℕ) → IsSingle o → 1 ≤ k → (is_single o && nat_lt 0 k) ≡ true
is_single_one One k s h = grind (arith, nat_tests)
is_single_one Optional k s h = grind (arith, nat_tests)
is_single_one Any k s h = absurd s
is_single_one Many k s h = absurd s
is_single_one (Count m) k s h = absurd s

pub no_both : (b : Bool) → b ≡ true → b ≡ false → ⊥
no_both true h k = cc
no_both false h k = cc

pub not_true : (b : Bool) → (b ≡ true → ⊥) → b ≡ false
not_true false f = refl
not_true true f = absurd (f refl)

enough_is : (o : Often) (k : ℕ) → nat_lt k (least_count o) ≡ false → IsEnough o k
enough_is One k h = grind (arith, nat_tests, h)
enough_is Optional k h = tt
enough_is Any k h = tt
enough_is Many k h = grind (arith, nat_tests, h)
enough_is (Count m) k h = grind (arith, nat_tests, h)

is_enough : (o : Often) (k : ℕ) → IsEnough o k → nat_lt k (least_count o) ≡ false
is_enough One k h = grind (arith, nat_tests)
is_enough Optional k h = grind (arith, nat_tests)
is_enough Any k h = grind (arith, nat_tests)
is_enough Many k h = grind (arith, nat_tests)
is_enough (Count m) k h = grind (arith, nat_tests)

pub all_is : (o : Often) (k : ℕ) → is_full o k ≡ true → IsAll o k
all_is One k h = absurd cc
all_is Optional k h = absurd cc
all_is Any k h = absurd cc
all_is Many k h = absurd cc
all_is (Count m) k h = grind (arith, nat_tests, h)

pub is_all : (o : Often) (k : ℕ) → IsAll o k → is_full o k ≡ true
is_all One k h = absurd h
is_all Optional k h = absurd h
is_all Any k h = absurd h
is_all Many k h = absurd h
is_all (Count m) k h = grind (arith, nat_tests)

stands_is : (k : ℕ) → nat_lt 0 k ≡ true → 1 ≤ k
stands_is k h = grind (arith, nat_tests, h)

is_standing : (k : ℕ) → 1 ≤ k → nat_lt 0 k ≡ true
is_standing k h = grind (arith, nat_tests)

pub some_is : (cs : List Column) (seen : List Field) → any_seen cs seen ≡ true → SomeStands cs seen
some_is [] seen h = absurd cc
some_is (c ∷ cs) seen h = go (nat_lt 0 (times c.field seen)) refl h (λ e. some_is cs seen e)
  where
    go : (b : Bool) → nat_lt 0 (times c.field seen) ≡ b → cond b true (any_seen cs seen) ≡ true → (any_seen cs seen ≡ true → SomeStands cs seen) → Stands c.field seen ⊎ SomeStands cs seen
    go true e h ih = inl (stands_is (times c.field seen) e)
    go false e h ih = inr (ih h)

pub is_some : (cs : List Column) (seen : List Field) → SomeStands cs seen → any_seen cs seen ≡ true
is_some [] seen h = absurd h
is_some (c ∷ cs) seen (inl h) = rw (is_standing (times c.field seen) h) refl
is_some (c ∷ cs) seen (inr h) = go (nat_lt 0 (times c.field seen)) (is_some cs seen h)
  where
    go : (b : Bool) → any_seen cs seen ≡ true → cond b true (any_seen cs seen) ≡ true
    go true h = refl
    go false h = h

-- ---- columns and their places

column_is : (cs : List Column) (n : Text) (c : Column) → column_of cs n ≡ Some c → IsColumn cs n (before_column cs n) c (later_columns cs n)
column_is [] n c is = absurd cc
column_is (d ∷ cs) n c is = go (is_named d n) refl is (λ e. column_is cs n c e)
  where
    go : (x : Bool) → is_named d n ≡ x → cond x (Some d) (column_of cs n) ≡ Some c → (column_of cs n ≡ Some c → IsColumn cs n (before_column cs n) c (later_columns cs n))
        → IsColumn (d ∷ cs) n (cond x [] (d ∷ before_column cs n)) c (cond x cs (later_columns cs n))
    go true e is ih = let q = some_column d c is in record { columns_are = ap (λ (z : Column). z ∷ cs) q; named = subst (λ (z : Column). is_named z n ≡ true) q e; first = tt }
    go false e is ih = let p = ih is in record { columns_are = ap (λ (z : List Column). d ∷ z) p.columns_are; named = p.named; first = (e, p.first) }

at_place : (ps : List Column) (c : Column) (qs : List Column) (n : Text) → NoneNamed ps n → is_named c n ≡ true → (column_of (ps ++ c ∷ qs) n ≡ Some c) × (before_column (ps ++ c ∷ qs) n ≡ ps) × (later_columns (ps ++ c ∷ qs) n ≡ qs)
at_place [] c qs n a h = (rw h refl, rw h refl, rw h refl)
at_place (p ∷ ps) c qs n a h =
    let i = at_place ps c qs n a.1 h in
    (rw (a.0, i.0) refl, rw (a.0, i.1) refl, rw (a.0, i.2) refl)

pub is_column : {cs : List Column} {n : Text} {ps : List Column} {c : Column} {qs : List Column} → IsColumn cs n ps c qs → (column_of cs n ≡ Some c) × (before_column cs n ≡ ps) × (later_columns cs n ≡ qs)
is_column {cs = cs} {n = n} {ps = ps} {c = c} {qs = qs} h =
    subst (λ (z : List Column). (column_of z n ≡ Some c) × (before_column z n ≡ ps) × (later_columns z n ≡ qs)) (sym h.columns_are) (at_place ps c qs n h.first h.named)

-- ---- the first field that lacks

lacking_is : (cs : List Column) (seen : List Field) (k : Fault) → lacking cs seen ≡ Some k → (f : Field) × LacksFirst cs seen f × (k ≡ lack_of f)
lacking_is [] seen k h = absurd cc
lacking_is (c ∷ cs) seen k h = go (lacks c seen) refl h (λ e. lacking_is cs seen k e)
  where
    go : (b : Bool) → lacks c seen ≡ b → cond b (Some (lack_of c.field)) (lacking cs seen) ≡ Some k → (lacking cs seen ≡ Some k → (f : Field) × LacksFirst cs seen f × (k ≡ lack_of f)) → (f : Field) × LacksFirst (c ∷ cs) seen f × (k ≡ lack_of f)
    go true e h ih = (
      c.field,
      record { before = []; column = c; behind = cs; columns_are = refl; field_is = refl; lacks = λ w. no_both (lacks c seen) e (is_enough c.often (times c.field seen) w); enough = tt },
      (let q : lack_of c.field ≡ k = some_fault (lack_of c.field) k h in sym q),
    )
      where
        some_fault : (a b : Fault) → ◌≡◌ {A = Option Fault} (Some a) (Some b) → a ≡ b
        some_fault a b e = cc
    go false e h ih =
        let i = ih h in
        let l = i.1 in
        (i.0, record { before = c ∷ l.before; column = l.column; behind = l.behind; columns_are = ap (λ (z : List Column). c ∷ z) l.columns_are; field_is = l.field_is; lacks = l.lacks; enough = (enough_is c.often (times c.field seen) e, l.enough) }, i.2)

lacks_at : (ps : List Column) (c : Column) (qs : List Column) (seen : List Field) → AllEnough ps seen → (IsEnough c.often (times c.field seen) → ⊥) → lacking (ps ++ c ∷ qs) seen ≡ Some (lack_of c.field)
lacks_at [] c qs seen a l = go (lacks c seen) refl
  where
    go : (b : Bool) → lacks c seen ≡ b → cond b (Some (lack_of c.field)) (lacking qs seen) ≡ Some (lack_of c.field)
    go true e = refl
    go false e = absurd (l (enough_is c.often (times c.field seen) e))
lacks_at (p ∷ ps) c qs seen a l = rw (is_enough p.often (times p.field seen) a.0) (lacks_at ps c qs seen a.1 l)

is_lacking : {cs : List Column} {seen : List Field} {f : Field} → LacksFirst cs seen f → lacking cs seen ≡ Some (lack_of f)
is_lacking {cs = cs} {seen = seen} {f = f} h =
    subst (λ (z : List Column). lacking z seen ≡ Some (lack_of f)) (sym h.columns_are) (lacks_at h.before h.column h.behind seen h.enough h.lacks ∙ ap (λ (z : Field). some_lack z) h.field_is)
  where
    some_lack : Field → Option Fault
    some_lack z = Some (lack_of z)

-- ---- rows

pub end_row : (cs : List Column) (seen : List Field) (k : Fault) → lacking cs seen ≡ Some k → EndRow cs seen k
end_row cs seen k h =
    let l = lacking_is cs seen k h in
    go l.0 l.1 (same_field l.0 fields.Message) refl l.2
  where
    go : (f : Field) → LacksFirst cs seen f → (b : Bool) → same_field f fields.Message ≡ b → k ≡ cond b misplaced (missing f) → EndRow cs seen k
    go f l true e q = subst (EndRow cs seen) (sym q) (f, l, e)
    go f l false e q = subst (EndRow cs seen) (sym q) (l, e)

pub row_end : (cs : List Column) (seen : List Field) (k : Fault) → EndRow cs seen k → lacking cs seen ≡ Some k
row_end cs seen (twice f) h = absurd h
row_end cs seen (out_of_order f) h = absurd h
row_end cs seen (missing f) h = is_lacking h.0 ∙ rw h.1 refl
row_end cs seen (wrong_value f) h = absurd h
row_end cs seen misplaced h = is_lacking h.1 ∙ rw h.2 refl

pub field_row : (cs : List Column) (seen : List Field) (n : Text) (k : Fault) → FieldShows cs seen n k → FieldRow cs seen n k
field_row cs seen n k (shows_twice c is h) =
    let s = single_is c.often (times c.field seen) h in
    record { before = before_column cs n; column = c; behind = later_columns cs n; is = column_is cs n c is; field_is = refl; single = s.0; stands = s.1 }
field_row cs seen n k (shows_order c is h a) =
    record { before = before_column cs n; column = c; behind = later_columns cs n; is = column_is cs n c is; field_is = refl; not_twice = λ s w. no_both (is_single c.often && nat_lt 0 (times c.field seen)) (is_single_one c.often (times c.field seen) s w) h; later = some_is (later_columns cs n) seen a }
field_row cs seen n k (shows_missing c m is l) =
    let f = lacking_is (before_column cs n) seen m l in
    go f.0 f.1 (same_field f.0 fields.Message) refl f.2
  where
    go : (f : Field) → LacksFirst (before_column cs n) seen f → (b : Bool) → same_field f fields.Message ≡ b → m ≡ cond b misplaced (missing f) → FieldRow cs seen n m
    go f l true e q = subst (FieldRow cs seen n) (sym q) (f, record { before = before_column cs n; column = c; behind = later_columns cs n; is = column_is cs n c is; lacks = l }, e)
    go f l false e q = subst (FieldRow cs seen n) (sym q) (record { before = before_column cs n; column = c; behind = later_columns cs n; is = column_is cs n c is; lacks = l }, e)

missing_shows : (cs : List Column) (seen : List Field) (n : Text) (f : Field) → IsMissing cs seen n f → FieldShows cs seen n (lack_of f)
missing_shows cs seen n f h =
    let p = is_column h.is in
    shows_missing h.column (lack_of f) p.0 (subst (λ (z : List Column). lacking z seen ≡ Some (lack_of f)) (sym p.1) (is_lacking h.lacks))

pub row_field : (cs : List Column) (seen : List Field) (n : Text) (k : Fault) → FieldRow cs seen n k → FieldShows cs seen n k
row_field cs seen n (twice f) h =
    let p = is_column h.is in
    subst (λ (z : Field). FieldShows cs seen n (twice z)) h.field_is (shows_twice h.column p.0 (is_single_one h.column.often (times h.column.field seen) h.single h.stands))
row_field cs seen n (out_of_order f) h =
    let p = is_column h.is in
    let c = h.column in
    subst (λ (z : Field). FieldShows cs seen n (out_of_order z)) h.field_is
    (shows_order c p.0 (not_true (is_single c.often && nat_lt 0 (times c.field seen)) (λ e. (let s = single_is c.often (times c.field seen) e in h.not_twice s.0 s.1))) (subst (λ (z : List Column). any_seen z seen ≡ true) (sym p.2) (is_some h.behind seen h.later)))
row_field cs seen n (missing f) h = subst (FieldShows cs seen n) (go (same_field f fields.Message) h.1) (missing_shows cs seen n f h.0)
  where
    go : (b : Bool) → b ≡ false → cond b misplaced (missing f) ≡ missing f
    go true e = absurd cc
    go false e = refl
row_field cs seen n (wrong_value f) h = absurd h
row_field cs seen n misplaced h = subst (FieldShows cs seen n) (go h.0 (same_field h.0 fields.Message) h.2) (missing_shows cs seen n h.0 h.1)
  where
    go : (f : Field) (b : Bool) → b ≡ true → cond b misplaced (missing f) ≡ misplaced
    go f true e = refl
    go f false e = absurd cc
