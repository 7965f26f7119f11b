-- What a record accepts, by its table alone: which fields in which order, and how its elements are written. No word here is a
-- test of the machine's, and none asks what was seen so far; only what an element_source holds goes by the target before it.
use Rattle.std.specs.Prelude.{◌≡◌, ◌⊎◌, ℕ, zero, suc, ◌≤◌, Bool, true, false, cond, List, [], ◌∷◌, ◌++◌, Option, Some, None, ◌||◌, ◌&&◌}
use Rattle.mos_fields.specs.declared.field.Field.{Field}
use Rattle.mos_fields.specs.declared.field.Field.TheVariants as fields
use Rattle.mos_fields.specs.declared.form.Form.{Form}
use Rattle.mos_fields.specs.declared.form.Form.TheVariants as forms
use Rattle.mos_fields.specs.Characters.{Text}
use Rattle.mos_fields.specs.Fields.{same_field, name_of}
use Rattle.mos_fields.specs.Forms.{among, is_white, reads}
use Rattle.mos_fields.specs.Raw.{is_tail}
use Rattle.mos_tables.specs.declared.column.Column.{Column}
use Rattle.mos_tables.specs.declared.column.Often.{Often}
use Rattle.mos_tables.specs.declared.column.Often.TheVariants.{One, Optional, Any, Many, Count}
use Rattle.mos_tables.specs.declared.table.Table.{Table}
use Rattle.mos_tables.specs.declared.table.Table.TheVariants.{Envelope}
use Rattle.mos_tables.specs.Events.{Attribute, Event, leaf}
use Rattle.mos_tables.specs.Tables.{columns, others, is_ack, ack_columns, group_columns, attribute_of_table, attribute_of_form, words_of}
use Rattle.mos_grammar.specs.Tokens.{Token, open_tag, empty_tag, close_tag, text, tail, mark, declaration}
use Rattle.mos_grammar.specs.Streams.{Stage, behind_mark, behind_declaration, may_mark, may_declare, mos_name}
use Rattle.mos_grammar.specs.Records.{Child, column_of, values_of, OpenField, Role, leaf_role, raw_role, record_role, role_at, other_role, keys, raw_events, nested}

-- ---- fields in the order of a table

-- so many of one field
abbrev pub copies : ℕ → Field → List Field
copies zero f = []
copies (suc k) f = f ∷ copies k f

-- how many of its field a column lets stand: just one, one or none, any number, one or more, just so many
abbrev pub Allows : Often → ℕ → Type 0
Allows One k = k ≡ 1
Allows Optional k = k ≤ 1
Allows Any k = Unit {0}
Allows Many k = 1 ≤ k
Allows (Count m) k = k ≡ m

-- The fields are those of the columns, column by column: of each as many as it allows, one behind the other, and no others.
abbrev pub IsFilled : List Column → List Field → Type 0
IsFilled [] fs = fs ≡ []
IsFilled (c ∷ cs) fs = (k : ℕ) × (rest : List Field) × Allows c.often k × (fs ≡ copies k c.field ++ rest) × IsFilled cs rest

-- with some more behind them they are
abbrev pub IsBegun : List Column → List Field → Type 0
IsBegun cs fs = (rest : List Field) × IsFilled cs (fs ++ rest)

-- so many groups of roAck, one after another
abbrev pub AreGroups : ℕ → List Field → Type 0
AreGroups zero fs = fs ≡ []
AreGroups (suc k) fs = (group : List Field) × (rest : List Field) × IsFilled group_columns group × (fs ≡ group ++ rest) × AreGroups k rest

-- a roAck has its own fields, and then any number of groups
abbrev pub IsAck : List Field → Type 0
IsAck fs = (k : ℕ) × (head : List Field) × (groups : List Field) × IsFilled ack_columns head × AreGroups k groups × (fs ≡ head ++ groups)

abbrev pub FillsAs : Bool → List Column → List Field → Type 0
FillsAs true cs fs = IsAck fs
FillsAs false cs fs = IsFilled cs fs

-- an element of a name that the table doesn't have
abbrev pub is_other : Field → Bool
is_other f = same_field f fields.Kept || same_field f fields.Dropped

-- the fields without these
abbrev pub own_fields : List Field → List Field
own_fields [] = []
own_fields (f ∷ fs) = cond (is_other f) (own_fields fs) (f ∷ own_fields fs)

abbrev pub fields_of : List Child → List Field
fields_of [] = []
fields_of (c ∷ cs) = c.0 ∷ fields_of cs

-- The children of a record have the fields that its table asks for, in its order; other elements stand anywhere among them.
abbrev pub Fills : Table → List Field → Type 0
Fills t fs = FillsAs (is_ack t) (columns t) (own_fields fs)

-- ---- the elements of a record

-- what an element of this name is, by the column of its name; other names are kept, dropped or refused, as the table says
abbrev pub by_column : Table → List Child → Text → List Attribute → Option Column → Role
by_column t before n g None = other_role (others t n)
by_column t before n g (Some c) = role_at before n g c c.shape

abbrev pub element_role : Table → List Child → Text → List Attribute → Role
element_role t before n g = by_column t before n g (column_of (columns t) n)

-- the attribute that a table names is given once, and is one of its words
abbrev pub HasAttribute : Option Field → List Attribute → Type 0
HasAttribute None g = Unit {0}
HasAttribute (Some a) g = (v : Text) × (values_of (name_of a) g ≡ v ∷ []) × (among v (words_of a) ≡ true)

-- What a text adds to the record's value: nothing, where an optional number, time or word is left empty; else it is of its
-- field's type, and adds what it reads as.
abbrev pub Gives : Text → OpenField → Text → List Event → Type 0
Gives n o x es = (((o.may_lack && is_white x) ≡ true) × (es ≡ [])) ⊎ (((o.may_lack && is_white x) ≡ false) × ((y : Text) × (reads o.form [] x ≡ Some y) × (es ≡ leaf n o.given y ∷ [])))

-- the type of a storyID of a story and of an itemID of an item, which are apart from those beside
abbrev pub is_key : Form → Bool
is_key forms.Key = true
is_key f = false

-- no two of these texts are the same
abbrev pub AreApart : List Text → Type 0
AreApart [] = Unit {0}
AreApart (k ∷ ks) = (among k ks ≡ false) × AreApart ks

-- The children are those of a whole record: its table's fields in their order, and keys of stories or items apart.
abbrev pub IsWhole : Table → List Child → Type 0
IsWhole t all = Fills t (fields_of all) × AreApart (keys t all)

-- In a record of the table, behind these children, the tokens are the elements of these children, each as the column of its
-- name wants it, with white space between them. A record inside is whole by its own table.
pub data AreElements : Table → List Child → List Child → List Token → Type 0 where
  nothing_more : {t : Table} {before : List Child} → AreElements t before [] []
  space_between : {t : Table} {before later : List Child} {x y : Text} {r : List Token}
      → is_white x ≡ true → AreElements t before later r → AreElements t before later (text x y ∷ r)
  field_with_text : {t : Table} {before later : List Child} {n tag x y : Text} {g : List Attribute} {r : List Token} {o : OpenField} {es : List Event}
      → element_role t before n g ≡ leaf_role o → HasAttribute (attribute_of_form o.form) g → Gives n o y es
      → AreElements t (before ++ (o.field, es) ∷ []) later r → AreElements t before ((o.field, es) ∷ later) (open_tag n g tag ∷ text x y ∷ close_tag n ∷ r)
  field_without_text : {t : Table} {before later : List Child} {n tag : Text} {g : List Attribute} {r : List Token} {o : OpenField} {es : List Event}
      → element_role t before n g ≡ leaf_role o → HasAttribute (attribute_of_form o.form) g → Gives n o [] es
      → AreElements t (before ++ (o.field, es) ∷ []) later r → AreElements t before ((o.field, es) ∷ later) (open_tag n g tag ∷ close_tag n ∷ r)
  field_tag : {t : Table} {before later : List Child} {n tag : Text} {g : List Attribute} {r : List Token} {o : OpenField} {es : List Event}
      → element_role t before n g ≡ leaf_role o → HasAttribute (attribute_of_form o.form) g → Gives n o [] es
      → AreElements t (before ++ (o.field, es) ∷ []) later r → AreElements t before ((o.field, es) ∷ later) (empty_tag n g tag ∷ r)
  unread : {t : Table} {before later : List Child} {n tag x : Text} {g : List Attribute} {r : List Token} {f : Field}
      → element_role t before n g ≡ raw_role f → is_tail n x ≡ true
      → AreElements t (before ++ (f, raw_events f (tag ++ x)) ∷ []) later r → AreElements t before ((f, raw_events f (tag ++ x)) ∷ later) (open_tag n g tag ∷ tail x ∷ r)
  unread_tag : {t : Table} {before later : List Child} {n tag : Text} {g : List Attribute} {r : List Token} {f : Field}
      → element_role t before n g ≡ raw_role f
      → AreElements t (before ++ (f, raw_events f tag) ∷ []) later r → AreElements t before ((f, raw_events f tag) ∷ later) (empty_tag n g tag ∷ r)
  record_inside : {t u : Table} {before later inner : List Child} {n tag : Text} {g h : List Attribute} {r s : List Token} {f : Field}
      → element_role t before n g ≡ record_role f u h → HasAttribute (attribute_of_table u) g
      → AreElements u [] inner r → IsWhole u inner
      → AreElements t (before ++ (f, nested n h u inner) ∷ []) later s → AreElements t before ((f, nested n h u inner) ∷ later) (open_tag n g tag ∷ (r ++ close_tag n ∷ s))
  record_tag : {t u : Table} {before later : List Child} {n tag : Text} {g h : List Attribute} {r : List Token} {f : Field}
      → element_role t before n g ≡ record_role f u h → HasAttribute (attribute_of_table u) g → IsWhole u []
      → AreElements t (before ++ (f, nested n h u []) ∷ []) later r → AreElements t before ((f, nested n h u []) ∷ later) (empty_tag n g tag ∷ r)

-- The tokens are the elements of a whole record of the table with these children.
abbrev pub IsContent : Table → List Child → List Token → Type 0
IsContent t all r = AreElements t [] all r × IsWhole t all

-- The tokens behind a start tag of this name, to its end tag, are a record of the table with this value.
abbrev pub IsTableRecord : Table → Text → List Event → List Token → Type 0
IsTableRecord t n v toks = (all : List Child) × (r : List Token) × IsContent t all r × (toks ≡ r ++ close_tag n ∷ []) × (v ≡ nested n [] t all)

-- From this stage on, the tokens are what may stand before a message and an envelope of this value.
pub data IsTableMessage : Stage → List Event → List Token → Type 0 where
  space_before : {g : Stage} {v : List Event} {x y : Text} {r : List Token} → is_white x ≡ true → IsTableMessage g v r → IsTableMessage g v (text x y ∷ r)
  mark_first : {g : Stage} {v : List Event} {r : List Token} → may_mark g ≡ true → IsTableMessage behind_mark v r → IsTableMessage g v (mark ∷ r)
  declaration_first : {g : Stage} {v : List Event} {r : List Token} → may_declare g ≡ true → IsTableMessage behind_declaration v r → IsTableMessage g v (declaration ∷ r)
  envelope : {g : Stage} {v : List Event} {tag : Text} {a : List Attribute} {r : List Token} → IsTableRecord Envelope mos_name v r → IsTableMessage g v (open_tag mos_name a tag ∷ r)
