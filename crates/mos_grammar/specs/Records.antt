-- Which tokens a record has, what the first token that doesn't fit shows, and where tokens begin a record.
use Rattle.std.specs.Prelude.{◌≡◌, ℕ, Bool, true, false, cond, List, [], ◌∷◌, ◌++◌, Option, Some, None, nat_le, nat_lt, ◌&&◌, not, ◌+◌}
use Rattle.std.specs.List.{flat_map}
use Rattle.mos_fields.specs.declared.field.Field.TheVariants as fields
use Rattle.mos_fields.specs.declared.field.Field.{Field}
use Rattle.mos_tables.specs.declared.column.Column.{Column}
use Rattle.mos_fields.specs.declared.operation.Operation.{Operation}
use Rattle.mos_tables.specs.declared.aim.Aim.{Aim}
use Rattle.mos_tables.specs.declared.aim.Aim.TheVariants.{Nowhere, AtStory, AtItem}
use Rattle.mos_tables.specs.declared.table.Table.{Table}
use Rattle.mos_tables.specs.declared.table.Table.TheVariants.{Source}
use Rattle.mos_fields.specs.declared.form.Form.{Form}
use Rattle.mos_tables.specs.declared.column.Shape.{Shape}
use Rattle.mos_tables.specs.declared.column.Shape.TheVariants.{Leaf, Raw, Record, Message}
use Rattle.mos_tables.specs.declared.column.Often.{Often}
use Rattle.mos_tables.specs.declared.column.Often.TheVariants.{One, Optional, Any, Many, Count}
use Rattle.mos_tables.specs.declared.others.Others.{Others}
use Rattle.mos_tables.specs.declared.others.Others.TheVariants.{Kept, Dropped, Refused}
use Rattle.mos_tables.specs.Events.{Attribute, Event, leaf, raw, opens, closes}
use Rattle.mos_grammar.specs.Tokens.{Token, open_tag, empty_tag, close_tag, text, tail}
use Rattle.mos_grammar.specs.declared.fault.Fault.{Fault}
use Rattle.mos_grammar.specs.declared.fault.Fault.TheVariants.{Twice as twice, Order as out_of_order, Missing as missing, Value as wrong_value, Tag as misplaced}
use Rattle.mos_fields.specs.Characters.{Text}
use Rattle.mos_fields.specs.Fields.{name_of, same_field, same}
use Rattle.mos_fields.specs.Raw.{is_tail}
use Rattle.mos_fields.specs.Forms.{among, is_white, trimmed, is_trimmed, reads}
use Rattle.mos_tables.specs.Tables.{columns, messages, table_of_name, others, has_keys, is_ack, ack_columns, group_columns, attribute_of_table, attribute_of_form, words_of, operation_of}

-- ---- children of a record

-- how often a field stands in a list
abbrev pub times : Field → List Field → ℕ
times f [] = 0
times f (g ∷ gs) = cond (same_field f g) (times f gs + 1) (times f gs)

-- a child element: the field of the record that it is, and what it adds to the value
abbrev pub Child : Type 0
Child = Field × List Event

-- what counts as seen behind one more field: the status of a group of roAck ends the group
abbrev pub seen_behind : Table → List Field → Field → List Field
seen_behind t seen f = cond (is_ack t && same_field f fields.Status) (fields.RoID ∷ fields.RoStatus ∷ []) (seen ++ f ∷ [])

abbrev pub seen_from : Table → List Field → List Child → List Field
seen_from t seen [] = seen
seen_from t seen (c ∷ cs) = seen_from t (seen_behind t seen c.0) cs

-- the fields seen, in roAck since the last group began
unfoldable pub seen_of : Table → List Child → List Field
seen_of t before = seen_from t [] before

-- ---- what a column wants

abbrev pub least_count : Often → ℕ
least_count One = 1
least_count Optional = 0
least_count Any = 0
least_count Many = 1
least_count (Count k) = k

-- a second one is Twice
abbrev pub is_single : Often → Bool
is_single One = true
is_single Optional = true
is_single Any = false
is_single Many = false
is_single (Count k) = false

-- after so many a further one is out of place
abbrev pub is_full : Often → ℕ → Bool
is_full One k = false
is_full Optional k = false
is_full Any k = false
is_full Many k = false
is_full (Count m) k = nat_le m k

abbrev pub is_optional : Often → Bool
is_optional Optional = true
is_optional o = false

-- a message's element has any name, every other field its own
abbrev pub is_named : Column → Text → Bool
is_named c n = elim (c.shape) [ Message ↦ true | Leaf f ↦ same (name_of c.field) n | Raw ↦ same (name_of c.field) n | Record t ↦ same (name_of c.field) n ]

-- the column of an element of this name
abbrev pub column_of : List Column → Text → Option Column
column_of [] n = None
column_of (c ∷ cs) n = cond (is_named c n) (Some c) (column_of cs n)

-- the columns before it
abbrev pub before_column : List Column → Text → List Column
before_column [] n = []
before_column (c ∷ cs) n = cond (is_named c n) [] (c ∷ before_column cs n)

-- ---- Twice, Order, Missing: the faults of a tag by the fields seen

-- some of these columns was seen
abbrev pub any_seen : List Column → List Field → Bool
any_seen [] seen = false
any_seen (c ∷ cs) seen = cond (nat_lt 0 (times c.field seen)) true (any_seen cs seen)

abbrev pub lacks : Column → List Field → Bool
lacks c seen = nat_lt (times c.field seen) (least_count c.often)

-- no field names the message element: where it lacks, the tag is out of place
abbrev pub lack_of : Field → Fault
lack_of f = cond (same_field f fields.Message) misplaced (missing f)

-- the first required field that wasn't seen
abbrev pub lacking : List Column → List Field → Option Fault
lacking [] seen = None
lacking (c ∷ cs) seen = cond (lacks c seen) (Some (lack_of c.field)) (lacking cs seen)

-- twice, out of order
abbrev pub repeated : List Column → List Field → Text → Option Fault
repeated [] seen n = None
repeated (c ∷ cs) seen n = cond (is_named c n)
    (cond (is_single c.often && nat_lt 0 (times c.field seen)) (Some (twice c.field)) (cond (any_seen cs seen) (Some (out_of_order c.field)) None))
    (repeated cs seen n)

abbrev pub or_else : Option Fault → Option Fault → Option Fault
or_else (Some f) g = Some f
or_else None g = g

-- the fault of a field's tag, behind the fields seen
abbrev pub field_fault : List Column → List Field → Text → Option Fault
field_fault cs seen n = or_else (repeated cs seen n) (lacking (before_column cs n) seen)

-- the columns that a record's end tag wants: those of a group of roAck only within a group
abbrev pub wanted : Table → List Field → List Column
wanted t seen = cond (is_ack t && not (any_seen group_columns seen)) ack_columns (columns t)

-- the fault of a record's end tag
unfoldable pub end_fault : Table → List Child → Option Fault
end_fault t before = lacking (wanted t (seen_of t before)) (seen_of t before)

-- ---- attributes

-- the values of the attribute, without white space round them
abbrev pub values_of : Text → List Attribute → List Text
values_of a [] = []
values_of a (b ∷ bs) = cond (same b.name a) (trimmed b.value ∷ values_of a bs) (values_of a bs)

abbrev pub value_fault : Field → List Text → Option Fault
value_fault a [] = Some (missing a)
value_fault a (v ∷ []) = cond (among v (words_of a)) None (Some (wrong_value a))
value_fault a (v ∷ w ∷ vs) = Some (twice a)

-- the fault of the attribute that a table names
abbrev pub attribute_fault : Option Field → List Attribute → Option Fault
attribute_fault None as_given = None
attribute_fault (Some a) as_given = value_fault a (values_of (name_of a) as_given)

abbrev pub first_value : Text → List Text → List Attribute
first_value a [] = []
first_value a (v ∷ vs) = record { name = a; value = v } ∷ []

-- what of the attributes stands in the value
abbrev pub given_of : Option Field → List Attribute → List Attribute
given_of None as_given = []
given_of (Some a) as_given = first_value (name_of a) (values_of (name_of a) as_given)

-- ---- how an element is read, its faults aside

-- a field with a text, behind its start tag
pub record OpenField : Type 0 where
  pub field : Field
  pub form : Form
  pub may_lack : Bool
  pub given : List Attribute

pub data Role : Type 0 where
  out_of_place : Role
  leaf_role : OpenField → Role
  raw_role : Field → Role
  record_role : Field → Table → List Attribute → Role

-- an operation that isn't known is refused by its attribute
abbrev pub operation_in : List Text → Operation
operation_in [] = operation_of []
operation_in (v ∷ vs) = operation_of v

abbrev pub message_of : Text → List Attribute → Option Table
message_of n as_given = table_of_name n (messages (operation_in (values_of (name_of fields.OperationKind) as_given)))

abbrev pub has_leaf : Text → List Event → Bool
has_leaf n [] = false
has_leaf n (leaf m g x ∷ es) = cond (same m n) true (has_leaf n es)
has_leaf n (raw f x ∷ es) = has_leaf n es
has_leaf n (opens m g ∷ es) = has_leaf n es
has_leaf n (closes m ∷ es) = has_leaf n es

-- what the element_target among these children aims at
abbrev pub aim_of : List Child → Aim
aim_of [] = Nowhere
aim_of (c ∷ cs) = cond (same_field c.0 fields.ElementTarget) (cond (has_leaf (name_of fields.ItemID) c.1) AtItem AtStory) (aim_of cs)

-- element_source holds what the operation and the target ask for
abbrev pub with_aim : List Child → Table → Table
with_aim before (Source o a) = Source o (aim_of before)
with_aim before t = t

abbrev pub message_role : Field → List Attribute → Option Table → Role
message_role f as_given (Some u) = record_role f u (given_of (attribute_of_table u) as_given)
message_role f as_given None = raw_role f

abbrev pub role_at : List Child → Text → List Attribute → Column → Shape → Role
role_at before n as_given c (Leaf form) = leaf_role (record { field = c.field; form = form; may_lack = is_optional c.often && is_trimmed form; given = given_of (attribute_of_form form) as_given })
role_at before n as_given c Raw = raw_role c.field
role_at before n as_given c (Record u) = record_role c.field (with_aim before u) (given_of (attribute_of_table u) as_given)
role_at before n as_given c Message = message_role c.field as_given (message_of n as_given)

abbrev pub other_role : Others → Role
other_role Kept = raw_role fields.Kept
other_role Dropped = raw_role fields.Dropped
other_role Refused = out_of_place

abbrev pub role_by : Table → List Child → Text → List Attribute → Option Column → Role
role_by t before n as_given None = other_role (others t n)
role_by t before n as_given (Some c) = cond (is_full c.often (times c.field (seen_of t before))) out_of_place (role_at before n as_given c c.shape)

unfoldable pub role : Table → List Child → Text → List Attribute → Role
role t before n as_given = role_by t before n as_given (column_of (columns t) n)

-- ---- texts

abbrev pub leaf_event : Text → OpenField → Option Text → Option (List Event)
leaf_event n o None = None
leaf_event n o (Some x) = Some (leaf n o.given x ∷ [])

-- what a text of the field adds to the value, if it is of its form; an empty optional number is absent
unfoldable pub field_events : Text → OpenField → List Text → Text → Option (List Event)
field_events n o taken x = cond (o.may_lack && is_white x) (Some []) (leaf_event n o (reads o.form taken x))

-- the fault of a text
abbrev pub text_fault : OpenField → Option (List Event) → Option Fault
text_fault o (Some es) = None
text_fault o None = Some (wrong_value o.field)

-- ---- the fault of a token, the kinds in their order

abbrev pub order_of : Fault → ℕ
order_of (twice f) = 0
order_of (out_of_order f) = 1
order_of (missing f) = 2
order_of (wrong_value f) = 3
order_of misplaced = 4

-- the one whose kind comes first; the first of two of one kind
abbrev pub earlier : Option Fault → Option Fault → Option Fault
earlier None g = g
earlier (Some f) None = Some f
earlier (Some f) (Some g) = cond (nat_lt (order_of g) (order_of f)) (Some g) (Some f)

-- what the start tag shows by its attributes
abbrev pub role_fault : Role → List Attribute → Option Fault
role_fault out_of_place as_given = None
role_fault (leaf_role o) as_given = attribute_fault (attribute_of_form o.form) as_given
role_fault (raw_role f) as_given = None
role_fault (record_role f u g) as_given = attribute_fault (attribute_of_table u) as_given

-- what an empty tag shows as an end tag
abbrev pub inside_fault : Text → Role → List Text → Option Fault
inside_fault n out_of_place taken = None
inside_fault n (leaf_role o) taken = text_fault o (field_events n o taken [])
inside_fault n (raw_role f) taken = None
inside_fault n (record_role f u g) taken = end_fault u []

-- elements that aren't fields show nothing of the fields
abbrev pub if_field : Option Column → Option Fault → Option Fault
if_field None k = None
if_field (Some c) k = k

abbrev pub outside_fault : Table → List Child → Text → Option Fault
outside_fault t before n = if_field (column_of (columns t) n) (field_fault (columns t) (seen_of t before) n)

-- How an element begins: refused, or read so.
pub data Admission : Type 0 where
  not_admitted : Fault → Admission
  admitted_leaf : OpenField → Admission
  admitted_raw : Field → Admission
  admitted_record : Field → Table → List Attribute → Admission

abbrev pub admitted : Role → Option Fault → Admission
admitted w (Some k) = not_admitted k
admitted out_of_place None = not_admitted misplaced
admitted (leaf_role o) None = admitted_leaf o
admitted (raw_role f) None = admitted_raw f
admitted (record_role f u g) None = admitted_record f u g

-- of a start tag: the record's fault comes first, then the attribute's
unfoldable pub admission : Table → List Child → Text → List Attribute → Admission
admission t before n as_given = admitted (role t before n as_given) (earlier (outside_fault t before n) (role_fault (role t before n as_given) as_given))

-- of an empty tag: then that of its end
unfoldable pub empty_admission : Table → List Text → List Child → Text → List Attribute → Admission
empty_admission t taken before n as_given = admitted (role t before n as_given) (earlier (outside_fault t before n) (earlier (role_fault (role t before n as_given) as_given) (inside_fault n (role t before n as_given) taken)))

-- ---- the value

abbrev pub flat : List Child → List Event
flat cs = flat_map (λ (c : Child). c.1) cs

-- what the children of this field add
abbrev pub found : Field → List Child → List Event
found f cs = flat_map (λ (c : Child). cond (same_field f c.0) c.1 []) cs

-- other elements stand behind mosExternalMetadata
abbrev pub column_events : Field → List Child → List Event
column_events f cs = found f cs ++ cond (same_field f fields.Metadata) (found fields.Kept cs) []

-- the value that the children make: by columns, in roAck group by group
unfoldable pub arranged : Table → List Child → List Event
arranged t cs = cond (is_ack t) (flat cs) (flat_map (λ (c : Column). column_events c.field cs) (columns t))

-- the events of a whole element
unfoldable pub nested : Text → List Attribute → Table → List Child → List Event
nested n g t cs = opens n g ∷ (arranged t cs ++ closes n ∷ [])

abbrev pub raw_events : Field → Text → List Event
raw_events f x = cond (same_field f fields.Dropped) [] (raw f x ∷ [])

-- the key of a story or item: its first field
abbrev pub key_of : List Event → List Text
key_of (opens n g ∷ leaf m h k ∷ es) = k ∷ []
key_of es = []

-- the keys that a record inside may not have, behind these children
unfoldable pub keys : Table → List Child → List Text
keys t cs = cond (has_keys t) (flat_map (λ (c : Child). key_of c.1) cs) []

-- ---- the grammar

-- In a record of the table, beside records with the keys taken, the tokens lead from these children to those.
pub data Content : Table → List Text → List Child → List Child → List Token → Type 0 where
  ends : {t : Table} {taken : List Text} {all : List Child}
      → end_fault t all ≡ None → Content t taken all all []
  white_space : {t : Table} {taken : List Text} {before all : List Child} {x y : Text} {r : List Token}
      → is_white x ≡ true → Content t taken before all r → Content t taken before all (text x y ∷ r)
  field : {t : Table} {taken : List Text} {before all : List Child} {n tag x y : Text} {g : List Attribute} {r : List Token} {o : OpenField} {es : List Event}
      → admission t before n g ≡ admitted_leaf o → field_events n o taken y ≡ Some es
      → Content t taken (before ++ (o.field, es) ∷ []) all r → Content t taken before all (open_tag n g tag ∷ text x y ∷ close_tag n ∷ r)
  empty_leaf : {t : Table} {taken : List Text} {before all : List Child} {n tag : Text} {g : List Attribute} {r : List Token} {o : OpenField} {es : List Event}
      → admission t before n g ≡ admitted_leaf o → field_events n o taken [] ≡ Some es
      → Content t taken (before ++ (o.field, es) ∷ []) all r → Content t taken before all (open_tag n g tag ∷ close_tag n ∷ r)
  empty_leaf_tag : {t : Table} {taken : List Text} {before all : List Child} {n tag : Text} {g : List Attribute} {r : List Token} {o : OpenField} {es : List Event}
      → empty_admission t taken before n g ≡ admitted_leaf o → field_events n o taken [] ≡ Some es
      → Content t taken (before ++ (o.field, es) ∷ []) all r → Content t taken before all (empty_tag n g tag ∷ r)
  raw_element : {t : Table} {taken : List Text} {before all : List Child} {n tag x : Text} {g : List Attribute} {r : List Token} {f : Field}
      → admission t before n g ≡ admitted_raw f → is_tail n x ≡ true
      → Content t taken (before ++ (f, raw_events f (tag ++ x)) ∷ []) all r → Content t taken before all (open_tag n g tag ∷ tail x ∷ r)
  raw_tag : {t : Table} {taken : List Text} {before all : List Child} {n tag : Text} {g : List Attribute} {r : List Token} {f : Field}
      → empty_admission t taken before n g ≡ admitted_raw f
      → Content t taken (before ++ (f, raw_events f tag) ∷ []) all r → Content t taken before all (empty_tag n g tag ∷ r)
  record_element : {t u : Table} {taken : List Text} {before all inner : List Child} {n tag : Text} {g h : List Attribute} {r s : List Token} {f : Field}
      → admission t before n g ≡ admitted_record f u h → Content u (keys t before) [] inner r
      → Content t taken (before ++ (f, nested n h u inner) ∷ []) all s → Content t taken before all (open_tag n g tag ∷ (r ++ close_tag n ∷ s))
  record_tag : {t u : Table} {taken : List Text} {before all : List Child} {n tag : Text} {g h : List Attribute} {r : List Token} {f : Field}
      → empty_admission t taken before n g ≡ admitted_record f u h → end_fault u [] ≡ None
      → Content t taken (before ++ (f, nested n h u []) ∷ []) all r → Content t taken before all (empty_tag n g tag ∷ r)

-- The tokens behind a start tag of this name, to its end tag, are a record with this value.
abbrev pub IsRecord : Table → Text → List Event → List Token → Type 0
IsRecord t n v toks = (all : List Child) × (r : List Token) × Content t [] [] all r × (toks ≡ r ++ close_tag n ∷ []) × (v ≡ nested n [] t all)

-- These tokens begin a record.
abbrev pub BeginsRecord : Table → Text → List Token → Type 0
BeginsRecord t n toks = (rest : List Token) × (v : List Event) × IsRecord t n v (toks ++ rest)
