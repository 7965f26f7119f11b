-- The faults of a tag by the fields that stand, kind by kind.
use Rattle.std.proofs.Common.{◌≡◌, Bool, true, false, cond, List, [], ◌∷◌, Option, Some, None, refl, sym, ap, subst, ◌∙◌}
use Rattle.std.specs.Prelude.{◌&&◌, nat_lt, ◌↔◌}
use Rattle.mos_fields.specs.declared.field.Field.{Field}
use Rattle.mos_fields.specs.Characters.{Text}
use Rattle.mos_tables.specs.declared.column.Column.{Column}
use Rattle.mos_grammar.specs.declared.fault.Fault.{Fault}
use Rattle.mos_grammar.specs.declared.fault.Fault.TheVariants.{Twice as twice, Order as out_of_order, Missing as missing, Value as wrong_value, Tag as misplaced}
use Rattle.mos_grammar.specs.Records.{times, seen_of, is_single, is_named, column_of, before_column, any_seen, lacking, repeated, or_else, field_fault, wanted, end_fault}
use Rattle.mos_grammar.specs.Kinds.{later_columns, FieldShows, shows_twice, shows_order, shows_missing}
use Rattle.record_laws.specs.Told.{InPlace}
use Rattle.record_laws.specs.Rows.{FieldRow}
use Rattle.record_laws.specs.Laws.{TwiceIsByTable, OrderIsByTable, MissingIsByTable, EndsAreByTable}
use Rattle.record_laws.proofs.Filled.{some_column}
use Rattle.record_laws.proofs.RowLemmas.{end_row, row_end, field_row, row_field}

-- what stands against a tag of this column: a second one, a later field
abbrev second : List Field → Column → Bool
second seen c = is_single c.often && nat_lt 0 (times c.field seen)

abbrev repeats : List Column → List Field → Text → Column → Option Fault
repeats cs seen n c = cond (second seen c) (Some (twice c.field)) (cond (any_seen (later_columns cs n) seen) (Some (out_of_order c.field)) None)

repeated_is : (cs : List Column) (seen : List Field) (n : Text) (c : Column) → column_of cs n ≡ Some c → repeated cs seen n ≡ repeats cs seen n c
repeated_is [] seen n c e = absurd cc
repeated_is (d ∷ cs) seen n c e = go (λ k. repeated_is cs seen n c k) (is_named d n) e
  where
    go : (column_of cs n ≡ Some c → repeated cs seen n ≡ repeats cs seen n c) → (b : Bool) → cond b (Some d) (column_of cs n) ≡ Some c
        → cond b (cond (second seen d) (Some (twice d.field)) (cond (any_seen cs seen) (Some (out_of_order d.field)) None)) (repeated cs seen n)
        ≡ cond (second seen c) (Some (twice c.field)) (cond (any_seen (cond b cs (later_columns cs n)) seen) (Some (out_of_order c.field)) None)
    go ih true e = ap (λ (z : Column). cond (second seen z) (Some (twice z.field)) (cond (any_seen cs seen) (Some (out_of_order z.field)) None)) (some_column d c e)
    go ih false e = ih e

-- elements of other names repeat nothing
none_repeated : (cs : List Column) (seen : List Field) (n : Text) → column_of cs n ≡ None → repeated cs seen n ≡ None
none_repeated [] seen n e = refl
none_repeated (c ∷ cs) seen n e = go (is_named c n) e (λ k. none_repeated cs seen n k)
  where
    go : (b : Bool) → cond b (Some c) (column_of cs n) ≡ None → (column_of cs n ≡ None → repeated cs seen n ≡ None)
        → cond b (cond (second seen c) (Some (twice c.field)) (cond (any_seen cs seen) (Some (out_of_order c.field)) None)) (repeated cs seen n) ≡ None
    go true e ih = absurd cc
    go false e ih = ih e

some_is : (a b : Fault) → ◌≡◌ {A = Option Fault} (Some a) (Some b) → a ≡ b
some_is a b e = cc

-- the fault is shown
shown : (cs : List Column) (seen : List Field) (n : Text) (c : Column) (k : Fault) → column_of cs n ≡ Some c → field_fault cs seen n ≡ Some k → FieldShows cs seen n k
shown cs seen n c k is h = go (second seen c) (any_seen (later_columns cs n) seen) refl refl (sym (ap (λ (z : Option Fault). or_else z (lacking (before_column cs n) seen)) (repeated_is cs seen n c is)) ∙ h)
  where
    go : (a b : Bool) → second seen c ≡ a → any_seen (later_columns cs n) seen ≡ b → or_else (cond a (Some (twice c.field)) (cond b (Some (out_of_order c.field)) None)) (lacking (before_column cs n) seen) ≡ Some k → FieldShows cs seen n k
    go true b p q h = subst (FieldShows cs seen n) (some_is (twice c.field) k h) (shows_twice c is p)
    go false true p q h = subst (FieldShows cs seen n) (some_is (out_of_order c.field) k h) (shows_order c is p q)
    go false false p q h = shows_missing c k is h

-- what lacks is neither of the first two kinds
abbrev IsLack : Fault → Type 0
IsLack (twice f) = ⊥
IsLack (out_of_order f) = ⊥
IsLack (missing f) = Unit {0}
IsLack (wrong_value f) = Unit {0}
IsLack misplaced = Unit {0}

lack_is : (cs : List Column) (seen : List Field) (k : Fault) → lacking cs seen ≡ Some k → IsLack k
lack_is cs seen (twice f) h = end_row cs seen (twice f) h
lack_is cs seen (out_of_order f) h = end_row cs seen (out_of_order f) h
lack_is cs seen (missing f) h = tt
lack_is cs seen (wrong_value f) h = tt
lack_is cs seen misplaced h = tt

-- a fault of the first two kinds is that of a field
of_field : (cs : List Column) (seen : List Field) (n : Text) (k : Fault) → (IsLack k → ⊥) → field_fault cs seen n ≡ Some k → FieldRow cs seen n k
of_field cs seen n k no_lack h = go (column_of cs n) refl
  where
    go : (x : Option Column) → column_of cs n ≡ x → FieldRow cs seen n k
    go (Some c) is = field_row cs seen n k (shown cs seen n c k is h)
    go None is = absurd (no_lack (lack_is (before_column cs n) seen k (sym (ap (λ (z : Option Fault). or_else z (lacking (before_column cs n) seen)) (none_repeated cs seen n is)) ∙ h)))

pub twice_by_table : TwiceIsByTable
twice_by_table cs seen n f = (λ h. of_field cs seen n (twice f) (λ b. b) h, λ h. back (row_field cs seen n (twice f) h))
  where
    back : FieldShows cs seen n (twice f) → field_fault cs seen n ≡ Some (twice f)
    back s = first (twice f) s refl
      where
        first : (k : Fault) → FieldShows cs seen n k → k ≡ twice f → field_fault cs seen n ≡ Some (twice f)
        first k (shows_twice c is p) e = rw (repeated_is cs seen n c is, p) (ap (λ (z : Fault). as_option z) e)
          where
            as_option : Fault → Option Fault
            as_option z = Some z
        first k (shows_order c is p q) e = absurd cc
        first k (shows_missing c m is l) e = absurd (subst IsLack e (lack_is (before_column cs n) seen m l))

pub order_by_table : OrderIsByTable
order_by_table cs seen n f = (λ h. of_field cs seen n (out_of_order f) (λ b. b) h, λ h. first (out_of_order f) (row_field cs seen n (out_of_order f) h) refl)
  where
    first : (k : Fault) → FieldShows cs seen n k → k ≡ out_of_order f → field_fault cs seen n ≡ Some (out_of_order f)
    first k (shows_twice c is p) e = absurd cc
    first k (shows_order c is p q) e = rw (repeated_is cs seen n c is, p, q) (ap (λ (z : Fault). as_option z) e)
      where
        as_option : Fault → Option Fault
        as_option z = Some z
    first k (shows_missing c m is l) e = absurd (subst IsLack e (lack_is (before_column cs n) seen m l))

no_two : (a b : Fault) (x : Option Fault) → x ≡ Some a → x ≡ Some b → a ≡ b
no_two a b x p q = some_is a b (sym p ∙ q)

-- where neither a second one nor a later one stands, what lacks is the fault
pub lack_told : (cs : List Column) (seen : List Field) (n : Text) (c : Column) (k : Fault) → column_of cs n ≡ Some c → IsLack k → (field_fault cs seen n ≡ Some k) ↔ (InPlace cs seen n × FieldRow cs seen n k)
lack_told cs seen n c k is lack = (there, back)
  where
    there : field_fault cs seen n ≡ Some k → InPlace cs seen n × FieldRow cs seen n k
    there h =
        let m : FieldRow cs seen n k = field_row cs seen n k (shown cs seen n c k is h) in (
          (
            (λ g t. subst IsLack (no_two k (twice g) (field_fault cs seen n) h ((twice_by_table cs seen n g).1 t)) lack),
            (λ g o. subst IsLack (no_two k (out_of_order g) (field_fault cs seen n) h ((order_by_table cs seen n g).1 o)) lack),
          ),
          m,
        )

    lacks_so : (j : Fault) → FieldShows cs seen n j → IsLack j → lacking (before_column cs n) seen ≡ Some j
    lacks_so j (shows_twice d i p) e = absurd e
    lacks_so j (shows_order d i p q) e = absurd e
    lacks_so j (shows_missing d m i l) e = l

    back : InPlace cs seen n × FieldRow cs seen n k → field_fault cs seen n ≡ Some k
    back h = go (second seen c) (any_seen (later_columns cs n) seen) refl refl
      where
        go : (a b : Bool) → second seen c ≡ a → any_seen (later_columns cs n) seen ≡ b → field_fault cs seen n ≡ Some k
        go true b p q = absurd (h.0.0 c.field (field_row cs seen n (twice c.field) (shows_twice c is p)))
        go false true p q = absurd (h.0.1 c.field (field_row cs seen n (out_of_order c.field) (shows_order c is p q)))
        go false false p q = rw (repeated_is cs seen n c is, p, q) (lacks_so k (row_field cs seen n k h.1) lack)

pub missing_by_table : MissingIsByTable
missing_by_table cs seen n c f is =
    let l = lack_told cs seen n c (missing f) is tt in
    ((λ h. (let r = l.0 h in (r.0.0, r.0.1, r.1.0, r.1.1))), λ h. l.1 ((h.0, h.1), (h.2, h.3)))

-- no fault of a field is of a value
pub never_value : (cs : List Column) (seen : List Field) (n : Text) (c : Column) (f : Field) → column_of cs n ≡ Some c → field_fault cs seen n ≡ Some (wrong_value f) → ⊥
never_value cs seen n c f is h = field_row cs seen n (wrong_value f) (shown cs seen n c (wrong_value f) is h)

pub ends_by_table : EndsAreByTable
unfolding end_fault
ends_by_table t before k = (λ h. end_row (wanted t (seen_of t before)) (seen_of t before) k h, λ h. row_end (wanted t (seen_of t before)) (seen_of t before) k h)
