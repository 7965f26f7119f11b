-- What a tag shows, kind by kind, and which of the kinds is its fault: the one that comes first in their order.
use Rattle.std.specs.Prelude.{◌≡◌, Bool, true, false, cond, List, [], ◌∷◌, Option, Some, None, nat_lt, ◌&&◌, ◌≤◌, ◌⊎◌}
use Rattle.mos_fields.specs.declared.field.Field.{Field}
use Rattle.mos_tables.specs.declared.column.Column.{Column}
use Rattle.mos_tables.specs.declared.table.Table.{Table}
use Rattle.mos_fields.specs.Characters.{Text}
use Rattle.mos_fields.specs.Fields.{name_of}
use Rattle.mos_fields.specs.Forms.{among}
use Rattle.mos_grammar.specs.Records.{times, Child, seen_of, is_single, is_named, column_of, before_column, any_seen, lacking, end_fault, values_of, Role, out_of_place, leaf_role, raw_role, record_role, role, field_events, order_of, Admission, not_admitted, admitted_leaf, admitted_raw, admitted_record}
use Rattle.mos_tables.specs.Tables.{columns, attribute_of_table, attribute_of_form, words_of}
use Rattle.mos_tables.specs.Events.{Attribute}
use Rattle.mos_grammar.specs.declared.fault.Fault.{Fault}
use Rattle.mos_grammar.specs.declared.fault.Fault.TheVariants.{Twice as twice, Order as out_of_order, Missing as missing, Value as wrong_value, Tag as misplaced}

-- the columns behind that of this name
abbrev pub later_columns : List Column → Text → List Column
later_columns [] n = []
later_columns (c ∷ cs) n = cond (is_named c n) cs (later_columns cs n)

-- By the fields seen: a single field that was there already; one that wasn't, behind a later one; the first required
-- field before it that lacks.
pub data FieldShows (cs : List Column) (seen : List Field) (n : Text) : Fault → Type 0 where
  shows_twice : (c : Column) → column_of cs n ≡ Some c → (is_single c.often && nat_lt 0 (times c.field seen)) ≡ true → FieldShows cs seen n (twice c.field)
  shows_order : (c : Column) → column_of cs n ≡ Some c → (is_single c.often && nat_lt 0 (times c.field seen)) ≡ false → any_seen (later_columns cs n) seen ≡ true → FieldShows cs seen n (out_of_order c.field)
  shows_missing : (c : Column) (k : Fault) → column_of cs n ≡ Some c → lacking (before_column cs n) seen ≡ Some k → FieldShows cs seen n k

-- By the attribute that a table names: given twice, not given, or not one of its words.
pub data ValuesShow (a : Field) : List Text → Fault → Type 0 where
  given_twice : (v w : Text) (vs : List Text) → ValuesShow a (v ∷ w ∷ vs) (twice a)
  not_given : ValuesShow a [] (missing a)
  not_a_word : (v : Text) (vs : List Text) → among v (words_of a) ≡ false → ValuesShow a (v ∷ vs) (wrong_value a)

abbrev pub AttributeShows : Option Field → List Attribute → Fault → Type 0
AttributeShows None g k = ⊥
AttributeShows (Some a) g k = ValuesShow a (values_of (name_of a) g) k

-- by the element itself; an empty tag is its end tag too
abbrev pub RoleShows : Text → Role → List Text → List Attribute → Bool → Fault → Type 0
RoleShows n out_of_place taken g empty k = k ≡ misplaced
RoleShows n (leaf_role o) taken g empty k = AttributeShows (attribute_of_form o.form) g k ⊎ ((empty ≡ true) × (field_events n o taken [] ≡ None) × (k ≡ wrong_value o.field))
RoleShows n (raw_role f) taken g empty k = ⊥
RoleShows n (record_role f u h) taken g empty k = AttributeShows (attribute_of_table u) g k ⊎ ((empty ≡ true) × (end_fault u [] ≡ Some k))

-- what a start tag, or an empty tag, shows behind these children
abbrev pub TagShows : Table → List Text → List Child → Text → List Attribute → Bool → Fault → Type 0
TagShows t taken before n g empty k = FieldShows (columns t) (seen_of t before) n k ⊎ RoleShows n (role t before n g) taken g empty k

-- nothing is shown, or this is shown and no earlier kind is
abbrev pub First : (Fault → Type 0) → Option Fault → Type 0
First shows None = (k : Fault) → shows k → ⊥
First shows (Some f) = shows f × ((k : Fault) → shows k → order_of f ≤ order_of k)

abbrev pub fault_of : Admission → Option Fault
fault_of (not_admitted k) = Some k
fault_of (admitted_leaf o) = None
fault_of (admitted_raw f) = None
fault_of (admitted_record f u g) = None
