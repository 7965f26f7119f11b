-- The fault of a tag is the first of what it shows.
use Rattle.std.proofs.Common.{◌≡◌, Bool, true, false, cond, List, [], ◌∷◌, Option, Some, None, refl, sym, ap, subst, ◌∙◌, arith, ◌≤◌, ◌⊎◌, inl, inr}
use Rattle.std.specs.Prelude.{nat_lt, ◌&&◌}
use Rattle.std.proofs.lemmas.Bool.{ltb-true, ltb-false}
use Rattle.mos_fields.specs.declared.field.Field.TheVariants as fields
use Rattle.mos_fields.specs.declared.field.Field.{Field}
use Rattle.mos_tables.specs.declared.column.Column.{Column}
use Rattle.mos_tables.specs.declared.table.Table.{Table}
use Rattle.mos_fields.specs.Characters.{Text}
use Rattle.mos_fields.specs.Fields.{name_of, same_field}
use Rattle.mos_fields.specs.Forms.{among}
use Rattle.mos_grammar.specs.Records.{times, Child, seen_of, is_single, is_named, column_of, before_column, any_seen, lacks, lack_of, lacking, repeated, or_else, field_fault, end_fault, values_of, value_fault, attribute_fault, OpenField, Role, out_of_place, leaf_role, raw_role, record_role, role, field_events, text_fault, order_of, earlier, role_fault, inside_fault, if_field, outside_fault, admitted, admission, empty_admission}
use Rattle.mos_tables.specs.Tables.{columns, attribute_of_table, attribute_of_form, words_of}
use Rattle.mos_tables.specs.Events.{Attribute, Event}
use Rattle.mos_grammar.specs.declared.fault.Fault.{Fault}
use Rattle.mos_grammar.specs.declared.fault.Fault.TheVariants.{Twice as twice, Order as out_of_order, Missing as missing, Value as wrong_value, Tag as misplaced}
use Rattle.mos_grammar.specs.Kinds.{later_columns, FieldShows, shows_twice, shows_order, shows_missing, ValuesShow, given_twice, not_given, not_a_word, AttributeShows, RoleShows, TagShows, First, fault_of}

pub order_most : (f : Fault) → order_of f ≤ 4
order_most (twice f) = omega arith
order_most (out_of_order f) = omega arith
order_most (missing f) = omega arith
order_most (wrong_value f) = omega arith
order_most misplaced = omega arith

lack_order : (f : Field) → 2 ≤ order_of (lack_of f)
lack_order f = go (same_field f fields.Message)
  where
    go : (b : Bool) → 2 ≤ order_of (cond b misplaced (missing f))
    go true = omega arith
    go false = omega arith

lacking_order : (cs : List Column) (seen : List Field) (k : Fault) → lacking cs seen ≡ Some k → 2 ≤ order_of k
lacking_order [] seen k h = absurd cc
lacking_order (c ∷ cs) seen k h = go (λ e. lacking_order cs seen k e) (lacks c seen) h
  where
    some_is : (a b : Fault) → ◌≡◌ {A = Option Fault} (Some a) (Some b) → a ≡ b
    some_is a b e = cc

    go : (lacking cs seen ≡ Some k → 2 ≤ order_of k) → (b : Bool) → cond b (Some (lack_of c.field)) (lacking cs seen) ≡ Some k → 2 ≤ order_of k
    go ih true h = subst (λ (z : Fault). 2 ≤ order_of z) (some_is (lack_of c.field) k h) (lack_order c.field)
    go ih false h = ih h

-- of two kinds of showing, the earlier of their first ones is the first
pub earlier_first : (P Q : Fault → Type 0) (a b : Option Fault) → First P a → First Q b → First (λ k. P k ⊎ Q k) (earlier a b)
earlier_first P Q None None p q = none
  where
    none : (k : Fault) → P k ⊎ Q k → ⊥
    none k (inl h) = p k h
    none k (inr h) = q k h
earlier_first P Q None (Some g) p q = (inr q.0, least_count)
  where
    least_count : (k : Fault) → P k ⊎ Q k → order_of g ≤ order_of k
    least_count k (inl h) = absurd (p k h)
    least_count k (inr h) = q.1 k h
earlier_first P Q (Some f) None p q = (inl p.0, least_count)
  where
    least_count : (k : Fault) → P k ⊎ Q k → order_of f ≤ order_of k
    least_count k (inl h) = p.1 k h
    least_count k (inr h) = absurd (q k h)
earlier_first P Q (Some f) (Some g) p q = go (nat_lt (order_of g) (order_of f)) refl
  where
    later : (k : Fault) → order_of g ≤ order_of f → P k ⊎ Q k → order_of g ≤ order_of k
    later k l (inl h) = let m = p.1 k h in omega (arith, l, m)
    later k l (inr h) = q.1 k h

    sooner : (k : Fault) → order_of f ≤ order_of g → P k ⊎ Q k → order_of f ≤ order_of k
    sooner k l (inl h) = p.1 k h
    sooner k l (inr h) = let m = q.1 k h in omega (arith, l, m)

    go : (b : Bool) → nat_lt (order_of g) (order_of f) ≡ b → First (λ k. P k ⊎ Q k) (cond b (Some g) (Some f))
    go true e = (inr q.0, λ k h. later k (omega (arith, ltb-true (order_of g) (order_of f) e)) h)
    go false e = (inl p.0, λ k h. sooner k (ltb-false (order_of g) (order_of f) e) h)

-- ---- by the fields seen

repeated_is : (cs : List Column) (seen : List Field) (n : Text) (c : Column) → column_of cs n ≡ Some c
    → repeated cs seen n ≡ cond (is_single c.often && nat_lt 0 (times c.field seen)) (Some (twice c.field)) (cond (any_seen (later_columns cs n) seen) (Some (out_of_order c.field)) None)
repeated_is [] seen n c e = absurd cc
repeated_is (d ∷ cs) seen n c e = go (λ k. repeated_is cs seen n c k) (is_named d n) e
  where
    some_is : (a b : Column) → ◌≡◌ {A = Option Column} (Some a) (Some b) → a ≡ b
    some_is a b e = cc

    go : (column_of cs n ≡ Some c → repeated cs seen n ≡ cond (is_single c.often && nat_lt 0 (times c.field seen)) (Some (twice c.field)) (cond (any_seen (later_columns cs n) seen) (Some (out_of_order c.field)) None))
        → (b : Bool) → cond b (Some d) (column_of cs n) ≡ Some c
        → cond b (cond (is_single d.often && nat_lt 0 (times d.field seen)) (Some (twice d.field)) (cond (any_seen cs seen) (Some (out_of_order d.field)) None)) (repeated cs seen n)
        ≡ cond (is_single c.often && nat_lt 0 (times c.field seen)) (Some (twice c.field)) (cond (any_seen (cond b cs (later_columns cs n)) seen) (Some (out_of_order c.field)) None)
    go ih true e = ap (λ (z : Column). cond (is_single z.often && nat_lt 0 (times z.field seen)) (Some (twice z.field)) (cond (any_seen cs seen) (Some (out_of_order z.field)) None)) (some_is d c e)
    go ih false e = ih e

no_both : (b : Bool) → b ≡ true → b ≡ false → ⊥
no_both true h k = cc
no_both false h k = cc

same_column : {o : Option Column} (c d : Column) → o ≡ Some c → o ≡ Some d → c ≡ d
same_column c d e i = go (sym e ∙ i)
  where
    go : ◌≡◌ {A = Option Column} (Some c) (Some d) → c ≡ d
    go e = cc

no_fault : (k : Fault) → ◌≡◌ {A = Option Fault} None (Some k) → ⊥
no_fault k e = cc

-- where the field is this column's
module _ (cs : List Column) (seen : List Field) (n : Text) (c : Column) (is : column_of cs n ≡ Some c) where
  single : Bool
  single = is_single c.often && nat_lt 0 (times c.field seen)

  unfoldable single_of : Column → Bool
  single_of d = is_single d.often && nat_lt 0 (times d.field seen)

  one_single : (d : Column) (b : Bool) → column_of cs n ≡ Some d → (is_single d.often && nat_lt 0 (times d.field seen)) ≡ b → (is_single c.often && nat_lt 0 (times c.field seen)) ≡ b
  one_single d b e h = subst (λ (z : Column). (is_single z.often && nat_lt 0 (times z.field seen)) ≡ b) (sym (same_column c d is e)) h

  -- what is shown where neither was there twice
  least_at : (b o : Bool) (l : Option Fault) → (is_single c.often && nat_lt 0 (times c.field seen)) ≡ b → any_seen (later_columns cs n) seen ≡ o → lacking (before_column cs n) seen ≡ l
      → First (FieldShows cs seen n) (or_else (cond b (Some (twice c.field)) (cond o (Some (out_of_order c.field)) None)) l)
  least_at true o l eb eo el = (shows_twice c is eb, λ k h. omega arith)
  least_at false true l eb eo el = (shows_order c is eb eo, λ k h. at_least h)
    where
      at_least : {k : Fault} → FieldShows cs seen n k → 1 ≤ order_of k
      at_least (shows_twice d e h) = absurd (no_both (is_single c.often && nat_lt 0 (times c.field seen)) (one_single d true e h) eb)
      at_least (shows_order d e h i) = omega arith
      at_least (shows_missing d k e h) = let m = lacking_order (before_column cs n) seen k h in omega (arith, m)
  least_at false false (Some k) eb eo el = (shows_missing c k is el, λ j h. at_least h)
    where
      some_is : (a b : Fault) → ◌≡◌ {A = Option Fault} (Some a) (Some b) → a ≡ b
      some_is a b e = cc

      at_least : {j : Fault} → FieldShows cs seen n j → order_of k ≤ order_of j
      at_least (shows_twice d e h) = absurd (no_both (is_single c.often && nat_lt 0 (times c.field seen)) (one_single d true e h) eb)
      at_least (shows_order d e h i) = absurd (no_both (any_seen (later_columns cs n) seen) i eo)
      at_least (shows_missing d j e h) = subst (λ (z : Fault). order_of k ≤ order_of z) (some_is k j (sym el ∙ h)) (omega arith)
  least_at false false None eb eo el = λ j h. none h
    where
      none : {j : Fault} → FieldShows cs seen n j → ⊥
      none (shows_twice d e h) = no_both (is_single c.often && nat_lt 0 (times c.field seen)) (one_single d true e h) eb
      none (shows_order d e h i) = no_both (any_seen (later_columns cs n) seen) i eo
      none (shows_missing d j e h) = no_fault j (sym el ∙ h)

pub outside_first : (t : Table) (before : List Child) (n : Text) → First (FieldShows (columns t) (seen_of t before) n) (outside_fault t before n)
outside_first t before n = go (column_of (columns t) n) refl
  where
    no_column : (c : Column) → ◌≡◌ {A = Option Column} None (Some c) → ⊥
    no_column c e = cc

    none : column_of (columns t) n ≡ None → {k : Fault} → FieldShows (columns t) (seen_of t before) n k → ⊥
    none e (shows_twice d i h) = no_column d (sym e ∙ i)
    none e (shows_order d i h j) = no_column d (sym e ∙ i)
    none e (shows_missing d k i h) = no_column d (sym e ∙ i)

    go : (o : Option Column) → column_of (columns t) n ≡ o → First (FieldShows (columns t) (seen_of t before) n) (if_field o (field_fault (columns t) (seen_of t before) n))
    go None e = λ k h. none e h
    go (Some c) e =
        subst (λ (z : Option Fault). First (FieldShows (columns t) (seen_of t before) n) (or_else z (lacking (before_column (columns t) n) (seen_of t before)))) (sym (repeated_is (columns t) (seen_of t before) n c e))
        (least_at (columns t) (seen_of t before) n c e (is_single c.often && nat_lt 0 (times c.field (seen_of t before))) (any_seen (later_columns (columns t) n) (seen_of t before)) (lacking (before_column (columns t) n) (seen_of t before)) refl refl refl)

-- ---- by attributes

values_first : (a : Field) (vs : List Text) → First (ValuesShow a vs) (value_fault a vs)
values_first a [] = (not_given, λ k h. only h)
  where
    only : {k : Fault} → ValuesShow a [] k → 2 ≤ order_of k
    only not_given = omega arith
values_first a (v ∷ []) = go (among v (words_of a)) refl
  where
    only : {k : Fault} → ValuesShow a (v ∷ []) k → 3 ≤ order_of k
    only (not_a_word w ws h) = omega arith

    none : among v (words_of a) ≡ true → {k : Fault} → ValuesShow a (v ∷ []) k → ⊥
    none e (not_a_word w ws h) = no_both (among v (words_of a)) e h

    go : (b : Bool) → among v (words_of a) ≡ b → First (ValuesShow a (v ∷ [])) (cond b None (Some (wrong_value a)))
    go true e = λ k h. none e h
    go false e = (not_a_word v [] e, λ k h. only h)
values_first a (v ∷ w ∷ vs) = (given_twice v w vs, λ k h. omega arith)

attribute_first : (o : Option Field) (g : List Attribute) → First (AttributeShows o g) (attribute_fault o g)
attribute_first None g = λ k h. h
attribute_first (Some a) g = values_first a (values_of (name_of a) g)

-- ---- the whole tag

never : (k : Fault) → ⊥ → ⊥
never k h = h

-- what is shown in two ways that come to the same
pub first_as : (P Q : Fault → Type 0) → ((k : Fault) → P k → Q k) → ((k : Fault) → Q k → P k) → (o : Option Fault) → First P o → First Q o
first_as P Q f b None h = λ k q. h k (b k q)
first_as P Q f b (Some j) h = (f j h.0, λ k q. h.1 k (b k q))

leaf_fault : (o : OpenField) (x : Option Fault) → x ≡ fault_of (admitted (leaf_role o) x)
leaf_fault o None = refl
leaf_fault o (Some k) = refl

raw_fault : (p : Field) (x : Option Fault) → x ≡ fault_of (admitted (raw_role p) x)
raw_fault p None = refl
raw_fault p (Some k) = refl

record_fault : (p : Field) (u : Table) (i : List Attribute) (x : Option Fault) → x ≡ fault_of (admitted (record_role p u i) x)
record_fault p u i None = refl
record_fault p u i (Some k) = refl

-- an element that stands nowhere
out_of_place_first : (P : Fault → Type 0) (a : Option Fault) → First P a → First (λ k. P k ⊎ (k ≡ misplaced)) (fault_of (admitted out_of_place a))
out_of_place_first P None h = (inr refl, least_count)
  where
    least_count : (k : Fault) → P k ⊎ (k ≡ misplaced) → order_of misplaced ≤ order_of k
    least_count k (inl p) = absurd (h k p)
    least_count k (inr e) = subst (λ (z : Fault). order_of misplaced ≤ order_of z) (sym e) (omega arith)
out_of_place_first P (Some f) h = (inl h.0, least_count)
  where
    least_count : (k : Fault) → P k ⊎ (k ≡ misplaced) → order_of f ≤ order_of k
    least_count k (inl p) = h.1 k p
    least_count k (inr e) = subst (λ (z : Fault). order_of f ≤ order_of z) (sym e) (order_most f)

earlier_right : (a : Option Fault) → a ≡ earlier a None
earlier_right None = refl
earlier_right (Some f) = refl

-- what an element shows by its attributes and, of an empty tag, by its end
abbrev pub BothShow : (Fault → Type 0) → (Fault → Type 0) → Fault → Type 0
BothShow P Q k = P k ⊎ Q k

none_left : (P : Fault → Type 0) (o : Option Fault) → First P o → First (λ k. P k ⊎ ⊥) o
none_left P o h = first_as P (λ k. P k ⊎ ⊥) (λ k p. inl p) back o h
  where
    back : (k : Fault) → P k ⊎ ⊥ → P k
    back k (inl p) = p
    back k (inr e) = absurd e

no_true : false ≡ true → ⊥
no_true e = cc

-- of a start tag
role_first : (n : Text) (w : Role) (taken : List Text) (g : List Attribute) (P : Fault → Type 0) (a : Option Fault) → First P a
    → First (λ k. P k ⊎ RoleShows n w taken g false k) (fault_of (admitted w (earlier a (role_fault w g))))
role_first n out_of_place taken g P a h = subst (λ (z : Option Fault). First (λ k. P k ⊎ (k ≡ misplaced)) (fault_of (admitted out_of_place z))) (earlier_right a) (out_of_place_first P a h)
role_first n (raw_role p) taken g P a h = subst (First (λ k. P k ⊎ ⊥)) (earlier_right a ∙ raw_fault p (earlier a None)) (none_left P a h)
role_first n (leaf_role o) taken g P a h =
    subst (First (λ k. P k ⊎ RoleShows n (leaf_role o) taken g false k)) (leaf_fault o (earlier a (attribute_fault (attribute_of_form o.form) g)))
    (first_as (λ k. P k ⊎ AttributeShows (attribute_of_form o.form) g k) (λ k. P k ⊎ RoleShows n (leaf_role o) taken g false k) to from (earlier a (attribute_fault (attribute_of_form o.form) g))
    (earlier_first P (AttributeShows (attribute_of_form o.form) g) a (attribute_fault (attribute_of_form o.form) g) h (attribute_first (attribute_of_form o.form) g)))
  where
    to : (k : Fault) → P k ⊎ AttributeShows (attribute_of_form o.form) g k → P k ⊎ RoleShows n (leaf_role o) taken g false k
    to k (inl p) = inl p
    to k (inr p) = inr (inl p)

    from : (k : Fault) → P k ⊎ RoleShows n (leaf_role o) taken g false k → P k ⊎ AttributeShows (attribute_of_form o.form) g k
    from k (inl p) = inl p
    from k (inr (inl p)) = inr p
    from k (inr (inr p)) = absurd (no_true p.0)
role_first n (record_role p u i) taken g P a h =
    subst (First (λ k. P k ⊎ RoleShows n (record_role p u i) taken g false k)) (record_fault p u i (earlier a (attribute_fault (attribute_of_table u) g)))
    (first_as (λ k. P k ⊎ AttributeShows (attribute_of_table u) g k) (λ k. P k ⊎ RoleShows n (record_role p u i) taken g false k) to from (earlier a (attribute_fault (attribute_of_table u) g))
    (earlier_first P (AttributeShows (attribute_of_table u) g) a (attribute_fault (attribute_of_table u) g) h (attribute_first (attribute_of_table u) g)))
  where
    to : (k : Fault) → P k ⊎ AttributeShows (attribute_of_table u) g k → P k ⊎ RoleShows n (record_role p u i) taken g false k
    to k (inl q) = inl q
    to k (inr q) = inr (inl q)

    from : (k : Fault) → P k ⊎ RoleShows n (record_role p u i) taken g false k → P k ⊎ AttributeShows (attribute_of_table u) g k
    from k (inl q) = inl q
    from k (inr (inl q)) = inr q
    from k (inr (inr q)) = absurd (no_true q.0)

told_first : (n : Text) (o : OpenField) (taken : List Text) → First (λ k. (true ≡ true) × (field_events n o taken [] ≡ None) × (k ≡ wrong_value o.field)) (text_fault o (field_events n o taken []))
told_first n o taken = go (field_events n o taken []) refl
  where
    told_none : (es : List Event) → ◌≡◌ {A = Option (List Event)} (Some es) None → ⊥
    told_none es e = cc

    go : (x : Option (List Event)) → field_events n o taken [] ≡ x → First (λ k. (true ≡ true) × (field_events n o taken [] ≡ None) × (k ≡ wrong_value o.field)) (text_fault o x)
    go None e = ((refl, e, refl), λ k h. subst (λ (z : Fault). order_of (wrong_value o.field) ≤ order_of z) (sym h.2) (omega arith))
    go (Some es) e = λ k h. told_none es (sym e ∙ h.1)

end_first : (u : Table) → First (λ k. (true ≡ true) × (end_fault u [] ≡ Some k)) (end_fault u [])
end_first u = go (end_fault u []) refl
  where
    some_is : (a b : Fault) → ◌≡◌ {A = Option Fault} (Some a) (Some b) → a ≡ b
    some_is a b e = cc

    go : (x : Option Fault) → end_fault u [] ≡ x → First (λ k. (true ≡ true) × (end_fault u [] ≡ Some k)) x
    go None e = λ k h. no_fault k (sym e ∙ h.1)
    go (Some f) e = ((refl, e), λ k h. subst (λ (z : Fault). order_of f ≤ order_of z) (some_is f k (sym e ∙ h.1)) (omega arith))

-- of an empty tag
empty_role_first : (n : Text) (w : Role) (taken : List Text) (g : List Attribute) (P : Fault → Type 0) (a : Option Fault) → First P a
    → First (λ k. P k ⊎ RoleShows n w taken g true k) (fault_of (admitted w (earlier a (earlier (role_fault w g) (inside_fault n w taken)))))
empty_role_first n out_of_place taken g P a h = subst (λ (z : Option Fault). First (λ k. P k ⊎ (k ≡ misplaced)) (fault_of (admitted out_of_place z))) (earlier_right a) (out_of_place_first P a h)
empty_role_first n (raw_role p) taken g P a h = subst (First (λ k. P k ⊎ ⊥)) (earlier_right a ∙ raw_fault p (earlier a None)) (none_left P a h)
empty_role_first n (leaf_role o) taken g P a h =
    let inner = earlier_first (AttributeShows (attribute_of_form o.form) g) (λ k. (true ≡ true) × (field_events n o taken [] ≡ None) × (k ≡ wrong_value o.field)) (attribute_fault (attribute_of_form o.form) g) (text_fault o (field_events n o taken []))
    (attribute_first (attribute_of_form o.form) g) (told_first n o taken) in
    subst (First (λ k. P k ⊎ RoleShows n (leaf_role o) taken g true k)) (leaf_fault o (earlier a (earlier (attribute_fault (attribute_of_form o.form) g) (text_fault o (field_events n o taken [])))))
    (earlier_first P (RoleShows n (leaf_role o) taken g true) a (earlier (attribute_fault (attribute_of_form o.form) g) (text_fault o (field_events n o taken []))) h inner)
empty_role_first n (record_role p u i) taken g P a h =
    let inner = earlier_first (AttributeShows (attribute_of_table u) g) (λ k. (true ≡ true) × (end_fault u [] ≡ Some k)) (attribute_fault (attribute_of_table u) g) (end_fault u [])
    (attribute_first (attribute_of_table u) g) (end_first u) in
    subst (First (λ k. P k ⊎ RoleShows n (record_role p u i) taken g true k)) (record_fault p u i (earlier a (earlier (attribute_fault (attribute_of_table u) g) (end_fault u []))))
    (earlier_first P (RoleShows n (record_role p u i) taken g true) a (earlier (attribute_fault (attribute_of_table u) g) (end_fault u [])) h inner)

-- A start tag is refused exactly where it shows something, and by the first kind that it shows.
pub admission_first : (t : Table) (taken : List Text) (before : List Child) (n : Text) (g : List Attribute) → First (TagShows t taken before n g false) (fault_of (admission t before n g))
unfolding admission
admission_first t taken before n g = role_first n (role t before n g) taken g (FieldShows (columns t) (seen_of t before) n) (outside_fault t before n) (outside_first t before n)

-- An empty tag likewise.
pub empty_admission_first : (t : Table) (taken : List Text) (before : List Child) (n : Text) (g : List Attribute) → First (TagShows t taken before n g true) (fault_of (empty_admission t taken before n g))
unfolding empty_admission
empty_admission_first t taken before n g = empty_role_first n (role t before n g) taken g (FieldShows (columns t) (seen_of t before) n) (outside_fault t before n) (outside_first t before n)
