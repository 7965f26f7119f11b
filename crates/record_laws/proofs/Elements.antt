-- How the machine admits an element, and what its column says.
use Rattle.std.proofs.Common.{◌≡◌, Bool, true, false, cond, List, [], ◌∷◌, Option, Some, None, refl, sym, ap, subst}
use Rattle.std.specs.Prelude.{nat_lt}
use Rattle.mos_fields.specs.declared.field.Field.{Field}
use Rattle.mos_fields.specs.Characters.{Text}
use Rattle.mos_fields.specs.Fields.{name_of}
use Rattle.mos_fields.specs.Forms.{among}
use Rattle.mos_tables.specs.declared.column.Column.{Column}
use Rattle.mos_tables.specs.declared.table.Table.{Table}
use Rattle.mos_tables.specs.Events.{Attribute, Event}
use Rattle.mos_tables.specs.Tables.{columns, attribute_of_table, attribute_of_form, words_of}
use Rattle.mos_grammar.specs.declared.fault.Fault.{Fault}
use Rattle.mos_grammar.specs.declared.fault.Fault.TheVariants.{Value as wrong_value}
use Rattle.mos_grammar.specs.Records.{times, Child, seen_of, is_full, column_of, field_fault, end_fault, values_of, value_fault, attribute_fault, OpenField, Role, out_of_place, leaf_role, raw_role, record_role, role_at, role_by, role, field_events, text_fault, order_of, earlier, role_fault, inside_fault, if_field, outside_fault, admitted_leaf, admitted_raw, admitted_record, admitted, admission, empty_admission}
use Rattle.record_laws.specs.Words.{by_column, element_role, HasAttribute}
use Rattle.record_laws.proofs.Children.{MayStand}

-- ---- none of two faults

earlier_parts : (a b : Option Fault) → earlier a b ≡ None → (a ≡ None) × (b ≡ None)
earlier_parts None b h = (refl, h)
earlier_parts (Some f) None h = absurd cc
earlier_parts (Some f) (Some g) h = absurd (go (nat_lt (order_of g) (order_of f)) h)
  where
    go : (b : Bool) → cond b (Some g) (Some f) ≡ None → ⊥
    go true h = cc
    go false h = cc

-- ---- attributes

given_once : (a : Field) (vs : List Text) → value_fault a vs ≡ None → (v : Text) × (vs ≡ v ∷ []) × (among v (words_of a) ≡ true)
given_once a [] h = absurd cc
given_once a (v ∷ []) h = (v, refl, go (among v (words_of a)) h)
  where
    go : (b : Bool) → cond b None (Some (wrong_value a)) ≡ None → b ≡ true
    go true h = refl
    go false h = absurd cc
given_once a (v ∷ w ∷ vs) h = absurd cc

has_attribute : (a : Option Field) (g : List Attribute) → attribute_fault a g ≡ None → HasAttribute a g
has_attribute None g h = tt
has_attribute (Some a) g h = given_once a (values_of (name_of a) g) h

attribute_none : (a : Option Field) (g : List Attribute) → HasAttribute a g → attribute_fault a g ≡ None
attribute_none None g h = refl
attribute_none (Some a) g h = rw (h.1, h.2) refl

-- ---- roles

role_place : (t : Table) (before : List Child) (n : Text) (g : List Attribute) (w : Role) → (w ≡ out_of_place → ⊥) → role t before n g ≡ w → outside_fault t before n ≡ None
    → (element_role t before n g ≡ w) × MayStand t before n (column_of (columns t) n)
unfolding role
role_place t before n g w some e k = go (column_of (columns t) n) e k
  where
    open_column : (c : Column) (b : Bool) → cond b out_of_place (role_at before n g c c.shape) ≡ w → (role_at before n g c c.shape ≡ w) × (b ≡ false)
    open_column c true e = absurd (some (sym e))
    open_column c false e = (e, refl)

    go : (x : Option Column) → role_by t before n g x ≡ w → if_field x (field_fault (columns t) (seen_of t before) n) ≡ None → (by_column t before n g x ≡ w) × MayStand t before n x
    go None e k = (e, tt)
    go (Some c) e k =
        let p = open_column c (is_full c.often (times c.field (seen_of t before))) e in
        (p.0, (k, p.1))

place_role : (t : Table) (before : List Child) (n : Text) (g : List Attribute) (w : Role) → element_role t before n g ≡ w → MayStand t before n (column_of (columns t) n) → (role t before n g ≡ w) × (outside_fault t before n ≡ None)
unfolding role
place_role t before n g w e m = go (column_of (columns t) n) e m
  where
    go : (x : Option Column) → by_column t before n g x ≡ w → MayStand t before n x → (role_by t before n g x ≡ w) × (if_field x (field_fault (columns t) (seen_of t before) n) ≡ None)
    go None e m = (e, refl)
    go (Some c) e m = (rw m.1 e, m.0)

admitted_as_leaf : (w : Role) (k : Option Fault) (o : OpenField) → admitted w k ≡ admitted_leaf o → (w ≡ leaf_role o) × (k ≡ None)
admitted_as_leaf w (Some k) o e = absurd cc
admitted_as_leaf out_of_place None o e = absurd cc
admitted_as_leaf (leaf_role p) None o e = ((let q : p ≡ o = cc in ap leaf_role q), refl)
admitted_as_leaf (raw_role f) None o e = absurd cc
admitted_as_leaf (record_role f u h) None o e = absurd cc

admitted_as_raw : (w : Role) (k : Option Fault) (f : Field) → admitted w k ≡ admitted_raw f → (w ≡ raw_role f) × (k ≡ None)
admitted_as_raw w (Some k) f e = absurd cc
admitted_as_raw out_of_place None f e = absurd cc
admitted_as_raw (leaf_role p) None f e = absurd cc
admitted_as_raw (raw_role p) None f e = ((let q : p ≡ f = cc in ap raw_role q), refl)
admitted_as_raw (record_role p u h) None f e = absurd cc

admitted_as_record : (w : Role) (k : Option Fault) (f : Field) (u : Table) (h : List Attribute) → admitted w k ≡ admitted_record f u h → (w ≡ record_role f u h) × (k ≡ None)
admitted_as_record w (Some k) f u h e = absurd cc
admitted_as_record out_of_place None f u h e = absurd cc
admitted_as_record (leaf_role p) None f u h e = absurd cc
admitted_as_record (raw_role p) None f u h e = absurd cc
admitted_as_record (record_role p v i) None f u h e = ((let a : p ≡ f = cc in let b : v ≡ u = cc in let c : i ≡ h = cc in rw (a, b, c) refl), refl)

no_leaf : (o : OpenField) → leaf_role o ≡ out_of_place → ⊥
no_leaf o e = cc

no_raw : (f : Field) → raw_role f ≡ out_of_place → ⊥
no_raw f e = cc

no_record : (f : Field) (u : Table) (h : List Attribute) → record_role f u h ≡ out_of_place → ⊥
no_record f u h e = cc

-- ---- start tags

abbrev pub Placed : Table → List Child → Text → List Attribute → Role → Type 0
Placed t before n g w = (element_role t before n g ≡ w) × MayStand t before n (column_of (columns t) n)

-- what the machine looked at
looked : (t : Table) (before : List Child) (n : Text) (g : List Attribute) (w : Role) (more : Option Fault) → (w ≡ out_of_place → ⊥) → role t before n g ≡ w → earlier (outside_fault t before n) more ≡ None
    → Placed t before n g w × (more ≡ None)
looked t before n g w more some e k =
    let p = earlier_parts (outside_fault t before n) more k in
    (role_place t before n g w some e p.0, p.1)

pub admits_leaf : (t : Table) (before : List Child) (n : Text) (g : List Attribute) (o : OpenField) → admission t before n g ≡ admitted_leaf o → Placed t before n g (leaf_role o) × HasAttribute (attribute_of_form o.form) g
unfolding admission
admits_leaf t before n g o e =
    let p = admitted_as_leaf (role t before n g) (earlier (outside_fault t before n) (role_fault (role t before n g) g)) o e in
    let q = looked t before n g (leaf_role o) (role_fault (role t before n g) g) (no_leaf o) p.0 p.1 in
    (q.0, has_attribute (attribute_of_form o.form) g (subst (λ (w : Role). role_fault w g ≡ None) p.0 q.1))

pub leaf_admitted : (t : Table) (before : List Child) (n : Text) (g : List Attribute) (o : OpenField) → Placed t before n g (leaf_role o) → HasAttribute (attribute_of_form o.form) g → admission t before n g ≡ admitted_leaf o
unfolding admission
leaf_admitted t before n g o p a =
    let q = place_role t before n g (leaf_role o) p.0 p.1 in
    rw (q.0, q.1, attribute_none (attribute_of_form o.form) g a) refl

pub admits_raw : (t : Table) (before : List Child) (n : Text) (g : List Attribute) (f : Field) → admission t before n g ≡ admitted_raw f → Placed t before n g (raw_role f)
unfolding admission
admits_raw t before n g f e =
    let p = admitted_as_raw (role t before n g) (earlier (outside_fault t before n) (role_fault (role t before n g) g)) f e in
    (looked t before n g (raw_role f) (role_fault (role t before n g) g) (no_raw f) p.0 p.1).0

pub raw_admitted : (t : Table) (before : List Child) (n : Text) (g : List Attribute) (f : Field) → Placed t before n g (raw_role f) → admission t before n g ≡ admitted_raw f
unfolding admission
raw_admitted t before n g f p =
    let q = place_role t before n g (raw_role f) p.0 p.1 in
    rw (q.0, q.1) refl

pub admits_record : (t : Table) (before : List Child) (n : Text) (g : List Attribute) (f : Field) (u : Table) (h : List Attribute) → admission t before n g ≡ admitted_record f u h
    → Placed t before n g (record_role f u h) × HasAttribute (attribute_of_table u) g
unfolding admission
admits_record t before n g f u h e =
    let p = admitted_as_record (role t before n g) (earlier (outside_fault t before n) (role_fault (role t before n g) g)) f u h e in
    let q = looked t before n g (record_role f u h) (role_fault (role t before n g) g) (no_record f u h) p.0 p.1 in
    (q.0, has_attribute (attribute_of_table u) g (subst (λ (w : Role). role_fault w g ≡ None) p.0 q.1))

pub record_admitted : (t : Table) (before : List Child) (n : Text) (g : List Attribute) (f : Field) (u : Table) (h : List Attribute) → Placed t before n g (record_role f u h) → HasAttribute (attribute_of_table u) g
    → admission t before n g ≡ admitted_record f u h
unfolding admission
record_admitted t before n g f u h p a =
    let q = place_role t before n g (record_role f u h) p.0 p.1 in
    rw (q.0, q.1, attribute_none (attribute_of_table u) g a) refl

-- ---- empty tags

pub admits_empty_leaf : (t : Table) (taken : List Text) (before : List Child) (n : Text) (g : List Attribute) (o : OpenField) → empty_admission t taken before n g ≡ admitted_leaf o
    → Placed t before n g (leaf_role o) × HasAttribute (attribute_of_form o.form) g
unfolding empty_admission
admits_empty_leaf t taken before n g o e =
    let w = role t before n g in
    let p = admitted_as_leaf w (earlier (outside_fault t before n) (earlier (role_fault w g) (inside_fault n w taken))) o e in
    let q = looked t before n g (leaf_role o) (earlier (role_fault w g) (inside_fault n w taken)) (no_leaf o) p.0 p.1 in
    let a = earlier_parts (role_fault w g) (inside_fault n w taken) q.1 in
    (q.0, has_attribute (attribute_of_form o.form) g (subst (λ (x : Role). role_fault x g ≡ None) p.0 a.0))

-- an empty tag that is admitted has a text that reads, or ends its record
pub empty_leaf_reads : (t : Table) (taken : List Text) (before : List Child) (n : Text) (g : List Attribute) (o : OpenField) → empty_admission t taken before n g ≡ admitted_leaf o → text_fault o (field_events n o taken []) ≡ None
unfolding empty_admission
empty_leaf_reads t taken before n g o e =
    let w = role t before n g in
    let p = admitted_as_leaf w (earlier (outside_fault t before n) (earlier (role_fault w g) (inside_fault n w taken))) o e in
    let q = earlier_parts (outside_fault t before n) (earlier (role_fault w g) (inside_fault n w taken)) p.1 in
    let a = earlier_parts (role_fault w g) (inside_fault n w taken) q.1 in
    subst (λ (x : Role). inside_fault n x taken ≡ None) p.0 a.1

pub empty_record_ends : (t : Table) (taken : List Text) (before : List Child) (n : Text) (g : List Attribute) (f : Field) (u : Table) (h : List Attribute) → empty_admission t taken before n g ≡ admitted_record f u h → end_fault u [] ≡ None
unfolding empty_admission
empty_record_ends t taken before n g f u h e =
    let w = role t before n g in
    let p = admitted_as_record w (earlier (outside_fault t before n) (earlier (role_fault w g) (inside_fault n w taken))) f u h e in
    let q = earlier_parts (outside_fault t before n) (earlier (role_fault w g) (inside_fault n w taken)) p.1 in
    let a = earlier_parts (role_fault w g) (inside_fault n w taken) q.1 in
    subst (λ (x : Role). inside_fault n x taken ≡ None) p.0 a.1

pub empty_leaf_admitted : (t : Table) (taken : List Text) (before : List Child) (n : Text) (g : List Attribute) (o : OpenField) (es : List Event) → Placed t before n g (leaf_role o) → HasAttribute (attribute_of_form o.form) g
    → field_events n o taken [] ≡ Some es → empty_admission t taken before n g ≡ admitted_leaf o
unfolding empty_admission
empty_leaf_admitted t taken before n g o es p a e =
    let q = place_role t before n g (leaf_role o) p.0 p.1 in
    rw (q.0, q.1, attribute_none (attribute_of_form o.form) g a, e) refl

pub admits_empty_raw : (t : Table) (taken : List Text) (before : List Child) (n : Text) (g : List Attribute) (f : Field) → empty_admission t taken before n g ≡ admitted_raw f → Placed t before n g (raw_role f)
unfolding empty_admission
admits_empty_raw t taken before n g f e =
    let w = role t before n g in
    let p = admitted_as_raw w (earlier (outside_fault t before n) (earlier (role_fault w g) (inside_fault n w taken))) f e in
    (looked t before n g (raw_role f) (earlier (role_fault w g) (inside_fault n w taken)) (no_raw f) p.0 p.1).0

pub empty_raw_admitted : (t : Table) (taken : List Text) (before : List Child) (n : Text) (g : List Attribute) (f : Field) → Placed t before n g (raw_role f) → empty_admission t taken before n g ≡ admitted_raw f
unfolding empty_admission
empty_raw_admitted t taken before n g f p =
    let q = place_role t before n g (raw_role f) p.0 p.1 in
    rw (q.0, q.1) refl

pub admits_empty_record : (t : Table) (taken : List Text) (before : List Child) (n : Text) (g : List Attribute) (f : Field) (u : Table) (h : List Attribute) → empty_admission t taken before n g ≡ admitted_record f u h
    → Placed t before n g (record_role f u h) × HasAttribute (attribute_of_table u) g
unfolding empty_admission
admits_empty_record t taken before n g f u h e =
    let w = role t before n g in
    let p = admitted_as_record w (earlier (outside_fault t before n) (earlier (role_fault w g) (inside_fault n w taken))) f u h e in
    let q = looked t before n g (record_role f u h) (earlier (role_fault w g) (inside_fault n w taken)) (no_record f u h) p.0 p.1 in
    let a = earlier_parts (role_fault w g) (inside_fault n w taken) q.1 in
    (q.0, has_attribute (attribute_of_table u) g (subst (λ (x : Role). role_fault x g ≡ None) p.0 a.0))

pub empty_record_admitted : (t : Table) (taken : List Text) (before : List Child) (n : Text) (g : List Attribute) (f : Field) (u : Table) (h : List Attribute) → Placed t before n g (record_role f u h)
    → HasAttribute (attribute_of_table u) g → end_fault u [] ≡ None → empty_admission t taken before n g ≡ admitted_record f u h
unfolding empty_admission
empty_record_admitted t taken before n g f u h p a e =
    let q = place_role t before n g (record_role f u h) p.0 p.1 in
    rw (q.0, q.1, attribute_none (attribute_of_table u) g a, e) refl
