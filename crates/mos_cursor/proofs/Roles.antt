-- What an admitted element is: its column, and its attributes.
use Rattle.std.proofs.Common.{◌≡◌, Bool, true, false, cond, List, [], ◌∷◌, Option, Some, None, refl, ap, subst}
use Rattle.std.specs.Prelude.{◌&&◌, nat_lt, ◌==◌}
use Rattle.std.proofs.lemmas.Bool.{eqb-true}
use Rattle.mos_fields.specs.Characters.{Text}
use Rattle.mos_fields.specs.Fields.{name_of, same}
use Rattle.mos_fields.specs.Forms.{among, is_trimmed}
use Rattle.mos_fields.specs.declared.field.Field.{Field}
use Rattle.mos_fields.specs.declared.field.Field.TheVariants as fields
use Rattle.mos_fields.specs.declared.form.Form.{Form}
use Rattle.mos_tables.specs.declared.column.Column.{Column}
use Rattle.mos_tables.specs.declared.column.Shape.{Shape}
use Rattle.mos_tables.specs.declared.column.Shape.TheVariants.{Leaf, Raw, Record, Message}
use Rattle.mos_tables.specs.declared.others.Others.{Others}
use Rattle.mos_tables.specs.declared.others.Others.TheVariants.{Kept, Dropped, Refused}
use Rattle.mos_tables.specs.declared.table.Table.{Table}
use Rattle.mos_tables.specs.Events.{Attribute}
use Rattle.mos_tables.specs.Tables.{columns, others, attribute_of_table, attribute_of_form, words_of}
use Rattle.mos_grammar.specs.declared.fault.Fault.{Fault}
use Rattle.mos_grammar.specs.declared.fault.Fault.TheVariants.{Value as fault_value}
use Rattle.mos_grammar.specs.Records.{Child, times, seen_of, is_full, is_optional, column_of, or_else, values_of, value_fault, attribute_fault, first_value, given_of, OpenField, Role, out_of_place, leaf_role, raw_role, record_role, message_of, with_aim, message_role, role_at, other_role, role_by, role, earlier, role_fault, inside_fault, outside_fault, admitted_leaf, admitted_raw, admitted_record, admitted, admission, empty_admission, order_of}
use Rattle.mos_cursor.specs.Accepted.{IsGiven}

-- ---- tests

pub both_true : (a b : Bool) → (a && b) ≡ true → (a ≡ true) × (b ≡ true)
both_true true true h = (refl, refl)
both_true true false h = absurd cc
both_true false b h = absurd cc

pub same_is : (a b : Text) → same a b ≡ true → a ≡ b
same_is [] [] h = refl
same_is [] (y ∷ ys) h = absurd cc
same_is (x ∷ xs) [] h = absurd cc
same_is (x ∷ xs) (y ∷ ys) h =
    let p = both_true (x == y) (same xs ys) h in
    let q : x ≡ y = eqb-true x y p.0 in
    let s : xs ≡ ys = same_is xs ys p.1 in
    cc

-- ---- no fault in two is none in each

pub no_earlier : (a b : Option Fault) → earlier a b ≡ None → (a ≡ None) × (b ≡ None)
no_earlier None b h = (refl, h)
no_earlier (Some f) None h = absurd cc
no_earlier (Some f) (Some g) h = absurd (go (nat_lt (order_of g) (order_of f)) h)
  where
    go : (b : Bool) → cond b (Some g) (Some f) ≡ None → ⊥
    go true h = cc
    go false h = cc

pub no_or_else : (a b : Option Fault) → or_else a b ≡ None → (a ≡ None) × (b ≡ None)
no_or_else None b h = (refl, h)
no_or_else (Some f) b h = absurd cc

-- ---- admissions

leaf_admitted : (w : Role) (k : Option Fault) (o : OpenField) → admitted w k ≡ admitted_leaf o → (w ≡ leaf_role o) × (k ≡ None)
leaf_admitted w (Some f) o h = absurd cc
leaf_admitted out_of_place None o h = absurd cc
leaf_admitted (leaf_role p) None o h = (ap_role, refl)
  where
    ap_role : leaf_role p ≡ leaf_role o
    ap_role = let q : p ≡ o = cc in ap leaf_role q
leaf_admitted (raw_role f) None o h = absurd cc
leaf_admitted (record_role f u g) None o h = absurd cc

raw_admitted : (w : Role) (k : Option Fault) (f : Field) → admitted w k ≡ admitted_raw f → (w ≡ raw_role f) × (k ≡ None)
raw_admitted w (Some k) f h = absurd cc
raw_admitted out_of_place None f h = absurd cc
raw_admitted (leaf_role p) None f h = absurd cc
raw_admitted (raw_role g) None f h = (cc, refl)
raw_admitted (record_role g u i) None f h = absurd cc

record_admitted : (w : Role) (k : Option Fault) (f : Field) (u : Table) (g : List Attribute) → admitted w k ≡ admitted_record f u g → (w ≡ record_role f u g) × (k ≡ None)
record_admitted w (Some k) f u g h = absurd cc
record_admitted out_of_place None f u g h = absurd cc
record_admitted (leaf_role p) None f u g h = absurd cc
record_admitted (raw_role e) None f u g h = absurd cc
record_admitted (record_role e v i) None f u g h = (cc, refl)

-- An element of this role is admitted behind these children.
pub record IsAdmitted (t : Table) (before : List Child) (n : Text) (as_given : List Attribute) (w : Role) : Type 0 where
  pub read_as : role t before n as_given ≡ w
  pub outside : outside_fault t before n ≡ None
  pub inside : role_fault w as_given ≡ None

none_of_role : {t : Table} {before : List Child} {n : Text} {g : List Attribute} (w : Role) → role t before n g ≡ w → earlier (outside_fault t before n) (role_fault (role t before n g) g) ≡ None → IsAdmitted t before n g w
none_of_role {t = t} {before = before} {n = n} {g = g} w e h =
    let p = no_earlier (outside_fault t before n) (role_fault (role t before n g) g) h in
    record { read_as = e; outside = p.0; inside = subst (λ (x : Role). role_fault x g ≡ None) e p.1 }

none_of_empty : (taken : List Text) {t : Table} {before : List Child} {n : Text} {g : List Attribute} (w : Role) → role t before n g ≡ w
    → earlier (outside_fault t before n) (earlier (role_fault (role t before n g) g) (inside_fault n (role t before n g) taken)) ≡ None → IsAdmitted t before n g w
none_of_empty taken {t = t} {before = before} {n = n} {g = g} w e h =
    let p = no_earlier (outside_fault t before n) (earlier (role_fault (role t before n g) g) (inside_fault n (role t before n g) taken)) h in
    let q = no_earlier (role_fault (role t before n g) g) (inside_fault n (role t before n g) taken) p.1 in
    record { read_as = e; outside = p.0; inside = subst (λ (x : Role). role_fault x g ≡ None) e q.0 }

pub leaf_is : {t : Table} {before : List Child} {n : Text} {g : List Attribute} {o : OpenField} → admission t before n g ≡ admitted_leaf o → IsAdmitted t before n g (leaf_role o)
unfolding admission
leaf_is {t = t} {before = before} {n = n} {g = g} {o = o} h =
    let p = leaf_admitted (role t before n g) (earlier (outside_fault t before n) (role_fault (role t before n g) g)) o h in none_of_role (leaf_role o) p.0 p.1

pub raw_is : {t : Table} {before : List Child} {n : Text} {g : List Attribute} {f : Field} → admission t before n g ≡ admitted_raw f → IsAdmitted t before n g (raw_role f)
unfolding admission
raw_is {t = t} {before = before} {n = n} {g = g} {f = f} h =
    let p = raw_admitted (role t before n g) (earlier (outside_fault t before n) (role_fault (role t before n g) g)) f h in none_of_role (raw_role f) p.0 p.1

pub record_is : {t : Table} {before : List Child} {n : Text} {g i : List Attribute} {f : Field} {u : Table} → admission t before n g ≡ admitted_record f u i → IsAdmitted t before n g (record_role f u i)
unfolding admission
record_is {t = t} {before = before} {n = n} {g = g} {i = i} {f = f} {u = u} h =
    let p = record_admitted (role t before n g) (earlier (outside_fault t before n) (role_fault (role t before n g) g)) f u i h in none_of_role (record_role f u i) p.0 p.1

pub empty_leaf_is : (taken : List Text) {t : Table} {before : List Child} {n : Text} {g : List Attribute} {o : OpenField} → empty_admission t taken before n g ≡ admitted_leaf o → IsAdmitted t before n g (leaf_role o)
unfolding empty_admission
empty_leaf_is taken {t = t} {before = before} {n = n} {g = g} {o = o} h =
    let p = leaf_admitted (role t before n g) (earlier (outside_fault t before n) (earlier (role_fault (role t before n g) g) (inside_fault n (role t before n g) taken))) o h in none_of_empty taken (leaf_role o) p.0 p.1

pub empty_raw_is : (taken : List Text) {t : Table} {before : List Child} {n : Text} {g : List Attribute} {f : Field} → empty_admission t taken before n g ≡ admitted_raw f → IsAdmitted t before n g (raw_role f)
unfolding empty_admission
empty_raw_is taken {t = t} {before = before} {n = n} {g = g} {f = f} h =
    let p = raw_admitted (role t before n g) (earlier (outside_fault t before n) (earlier (role_fault (role t before n g) g) (inside_fault n (role t before n g) taken))) f h in none_of_empty taken (raw_role f) p.0 p.1

pub empty_record_is : (taken : List Text) {t : Table} {before : List Child} {n : Text} {g i : List Attribute} {f : Field} {u : Table} → empty_admission t taken before n g ≡ admitted_record f u i → IsAdmitted t before n g (record_role f u i)
unfolding empty_admission
empty_record_is taken {t = t} {before = before} {n = n} {g = g} {i = i} {f = f} {u = u} h =
    let p = record_admitted (role t before n g) (earlier (outside_fault t before n) (earlier (role_fault (role t before n g) g) (inside_fault n (role t before n g) taken))) f u i h in none_of_empty taken (record_role f u i) p.0 p.1

-- ---- the column of a role

-- The element is this column's, and the record is not full of it.
pub record IsColumn (t : Table) (before : List Child) (n : Text) (c : Column) : Type 0 where
  pub named : column_of (columns t) n ≡ Some c
  pub room : is_full c.often (times c.field (seen_of t before)) ≡ false

-- what each role says of the column
pub record LeafRole (t : Table) (before : List Child) (n : Text) (as_given : List Attribute) (o : OpenField) : Type 0 where
  pub column : Column
  pub form : Form
  pub is_column : IsColumn t before n column
  pub shape : column.shape ≡ Leaf form
  pub field_is : o ≡ record { field = column.field; form = form; may_lack = is_optional column.often && is_trimmed form; given = given_of (attribute_of_form form) as_given }

pub data RawRole (t : Table) (before : List Child) (n : Text) (as_given : List Attribute) (f : Field) : Type 0 where
  raw_column : (c : Column) → IsColumn t before n c → c.shape ≡ Raw → f ≡ c.field → RawRole t before n as_given f
  raw_message : (c : Column) → IsColumn t before n c → c.shape ≡ Message → f ≡ c.field → RawRole t before n as_given f
  raw_kept : column_of (columns t) n ≡ None → f ≡ fields.Kept → RawRole t before n as_given f
  raw_dropped : column_of (columns t) n ≡ None → f ≡ fields.Dropped → RawRole t before n as_given f

pub data RecordRole (t : Table) (before : List Child) (n : Text) (as_given : List Attribute) (f : Field) (u : Table) (g : List Attribute) : Type 0 where
  record_column : (c : Column) (v : Table) → IsColumn t before n c → c.shape ≡ Record v → f ≡ c.field → u ≡ with_aim before v → g ≡ given_of (attribute_of_table v) as_given → RecordRole t before n as_given f u g
  record_message : (c : Column) → IsColumn t before n c → c.shape ≡ Message → f ≡ c.field → message_of n as_given ≡ Some u → g ≡ given_of (attribute_of_table u) as_given → RecordRole t before n as_given f u g

abbrev RoleSays : Table → List Child → Text → List Attribute → Role → Type 0
RoleSays t before n g out_of_place = Unit {0}
RoleSays t before n g (leaf_role o) = LeafRole t before n g o
RoleSays t before n g (raw_role f) = RawRole t before n g f
RoleSays t before n g (record_role f u i) = RecordRole t before n g f u i

other_says : (t : Table) (before : List Child) (n : Text) (g : List Attribute) (x : Others) → column_of (columns t) n ≡ None → RoleSays t before n g (other_role x)
other_says t before n g Kept e = raw_kept e refl
other_says t before n g Dropped e = raw_dropped e refl
other_says t before n g Refused e = tt

message_says : (t : Table) (before : List Child) (n : Text) (g : List Attribute) (c : Column) (o : Option Table) → message_of n g ≡ o → IsColumn t before n c → c.shape ≡ Message → RoleSays t before n g (message_role c.field g o)
message_says t before n g c None e i s = raw_message c i s refl
message_says t before n g c (Some u) e i s = record_message c i s refl e refl

shape_says : (t : Table) (before : List Child) (n : Text) (g : List Attribute) (c : Column) (s : Shape) → IsColumn t before n c → c.shape ≡ s → RoleSays t before n g (role_at before n g c s)
shape_says t before n g c (Leaf form) i e = record { column = c; form = form; is_column = i; shape = e; field_is = refl }
shape_says t before n g c Raw i e = raw_column c i e refl
shape_says t before n g c (Record u) i e = record_column c u i e refl refl refl
shape_says t before n g c Message i e = message_says t before n g c (message_of n g) refl i e

column_says : (t : Table) (before : List Child) (n : Text) (g : List Attribute) (o : Option Column) → column_of (columns t) n ≡ o → RoleSays t before n g (role_by t before n g o)
column_says t before n g None e = other_says t before n g (others t n) e
column_says t before n g (Some c) e = go (is_full c.often (times c.field (seen_of t before))) refl
  where
    go : (b : Bool) → is_full c.often (times c.field (seen_of t before)) ≡ b → RoleSays t before n g (cond b out_of_place (role_at before n g c c.shape))
    go true h = tt
    go false h = shape_says t before n g c c.shape (record { named = e; room = h }) refl

says : (t : Table) (before : List Child) (n : Text) (g : List Attribute) (w : Role) → role t before n g ≡ w → RoleSays t before n g w
unfolding role
says t before n g w e = subst (RoleSays t before n g) e (column_says t before n g (column_of (columns t) n) refl)

pub leaf_says : {t : Table} {before : List Child} {n : Text} {g : List Attribute} {o : OpenField} → IsAdmitted t before n g (leaf_role o) → LeafRole t before n g o
leaf_says {t = t} {before = before} {n = n} {g = g} {o = o} a = says t before n g (leaf_role o) a.read_as

pub raw_says : {t : Table} {before : List Child} {n : Text} {g : List Attribute} {f : Field} → IsAdmitted t before n g (raw_role f) → RawRole t before n g f
raw_says {t = t} {before = before} {n = n} {g = g} {f = f} a = says t before n g (raw_role f) a.read_as

pub record_says : {t : Table} {before : List Child} {n : Text} {g i : List Attribute} {f : Field} {u : Table} → IsAdmitted t before n g (record_role f u i) → RecordRole t before n g f u i
record_says {t = t} {before = before} {n = n} {g = g} {i = i} {f = f} {u = u} a = says t before n g (record_role f u i) a.read_as

-- ---- attributes

values_given : (a : Field) (vs : List Text) → value_fault a vs ≡ None → IsGiven (Some a) (first_value (name_of a) vs)
values_given a [] h = absurd cc
values_given a (v ∷ []) h = go (among v (words_of a)) refl h
  where
    go : (b : Bool) → among v (words_of a) ≡ b → cond b None (Some (fault_value a)) ≡ None → IsGiven (Some a) (first_value (name_of a) (v ∷ []))
    go true e h = (v, refl, e)
    go false e h = absurd cc
values_given a (v ∷ w ∷ vs) h = absurd cc

pub given_is : (o : Option Field) (g : List Attribute) → attribute_fault o g ≡ None → IsGiven o (given_of o g)
given_is None g h = refl
given_is (Some a) g h = values_given a (values_of (name_of a) g) h
