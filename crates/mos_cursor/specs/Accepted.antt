-- The values of records that the grammar accepts, and what their parts are.
use Rattle.std.specs.Prelude.{◌≡◌, ℕ, Bool, true, false, List, [], ◌∷◌, ◌++◌, Option, Some, None, length, ◌≤◌}
use Rattle.std.specs.List.{AllByRecursion}
use Rattle.mos_fields.specs.Characters.{Text}
use Rattle.mos_fields.specs.Fields.{name_of}
use Rattle.mos_fields.specs.Forms.{reads, among}
use Rattle.mos_fields.specs.Raw.{IsRawElement}
use Rattle.mos_fields.specs.Values.{operation_text}
use Rattle.mos_fields.specs.declared.field.Field.{Field}
use Rattle.mos_fields.specs.declared.field.Field.TheVariants as fields
use Rattle.mos_fields.specs.declared.form.Form.{Form}
use Rattle.mos_fields.specs.declared.operation.Operation.{Operation}
use Rattle.mos_tables.specs.declared.column.Column.{Column}
use Rattle.mos_tables.specs.declared.column.Shape.{Shape}
use Rattle.mos_tables.specs.declared.column.Shape.TheVariants.{Leaf, Raw, Record, Message}
use Rattle.mos_tables.specs.declared.column.Often.{Often}
use Rattle.mos_tables.specs.declared.column.Often.TheVariants.{One, Optional, Any, Many, Count}
use Rattle.mos_tables.specs.declared.table.Table.{Table}
use Rattle.mos_tables.specs.declared.table.Table.TheVariants as tables
use Rattle.mos_tables.specs.Events.{Attribute, Event, leaf, opens, closes}
use Rattle.mos_tables.specs.Tables.{messages, table_of_name, attribute_of_table, attribute_of_form, words_of}
use Rattle.mos_grammar.specs.Tokens.{Token, open_tag, empty_tag}
use Rattle.mos_grammar.specs.Records.{Child, Content, arranged, with_aim}
use Rattle.mos_lexer.specs.Lexing.{WrittenTag}
use Rattle.mos_cursor.specs.Parts.{LeafPart, RecordPart, Part, absent, one_leaf, leaves, one_raw, raws, one_record, records, message}

-- the tags of the tokens are written as tags are
abbrev pub IsWritten : Token → Type 0
IsWritten (open_tag n g x) = WrittenTag false n g x x
IsWritten (empty_tag n g x) = WrittenTag true n g x x
IsWritten t = Unit {0}

-- These are the events of a record of the table, beside records with the keys taken: some tokens lead to it.
pub record IsAccepted (t : Table) (taken : List Text) (es : List Event) : Type 0 where
  pub all : List Child
  pub tokens : List Token
  pub content : Content t taken [] all tokens
  pub written : AllByRecursion IsWritten tokens
  pub value : es ≡ arranged t all

-- ---- what fits a column

-- the attributes are those that the table names
abbrev pub IsGiven : Option Field → List Attribute → Type 0
IsGiven None g = g ≡ []
IsGiven (Some a) g = (v : Text) × (g ≡ record { name = name_of a; value = v } ∷ []) × (among v (words_of a) ≡ true)

-- those of a record; an action's operation is that of its table
abbrev pub IsGivenTo : Table → List Attribute → Type 0
IsGivenTo (tables.Action o) g = g ≡ record { name = name_of fields.OperationKind; value = operation_text o } ∷ []
IsGivenTo t g = IsGiven (attribute_of_table t) g

-- a text in the canonical form of its type
pub record LeafFits (form : Form) (p : LeafPart) : Type 0 where
  pub given : IsGiven (attribute_of_form form) p.given
  pub canonical : reads form [] p.text ≡ Some p.text

-- the first text of a record
abbrev pub first_text : List Event → List Text
first_text (leaf n g x ∷ es) = x ∷ []
first_text es = []

-- the records whose IDs have to be apart: the stories of a body, the items of a story
abbrev pub is_keyed : Table → Table → Bool
is_keyed tables.Body tables.Story = true
is_keyed tables.Story tables.Item = true
is_keyed t u = false

-- no such first text came before
abbrev pub IsFresh : List Text → List Text → Type 0
IsFresh earlier [] = Unit {0}
IsFresh earlier (x ∷ xs) = among x earlier ≡ false

abbrev pub FreshIf : Bool → List Text → List Text → Type 0
FreshIf false earlier xs = Unit {0}
FreshIf true earlier xs = IsFresh earlier xs

-- a record inside one of the first table, behind records with these first texts
pub record RecordFits (t u : Table) (earlier : List Text) (p : RecordPart) : Type 0 where
  pub before : List Child
  pub taken : List Text
  pub given : IsGivenTo u p.given
  pub accepted : IsAccepted (with_aim before u) taken p.inner
  pub fresh : FreshIf (is_keyed t u) earlier (first_text p.inner)

abbrev pub RecordsFit : Table → Table → List Text → List RecordPart → Type 0
RecordsFit t u earlier [] = Unit {0}
RecordsFit t u earlier (p ∷ ps) = RecordFits t u earlier p × RecordsFit t u (earlier ++ first_text p.inner) ps

-- a message's element, by its name
pub record MessageFits (n : Text) (p : RecordPart) : Type 0 where
  pub operation : Operation
  pub table : Table
  pub named : table_of_name n (messages operation) ≡ Some table
  pub taken : List Text
  pub given : IsGivenTo table p.given
  pub accepted : IsAccepted table taken p.inner

-- a text, or none, or several
abbrev pub OneLeaf : Form → Part → Type 0
OneLeaf form (one_leaf p) = LeafFits form p
OneLeaf form p = ⊥

abbrev pub OptionalLeaf : Form → Part → Type 0
OptionalLeaf form absent = Unit {0}
OptionalLeaf form (one_leaf p) = LeafFits form p
OptionalLeaf form p = ⊥

abbrev pub AnyLeaves : Form → Part → Type 0
AnyLeaves form (leaves ps) = AllByRecursion (LeafFits form) ps
AnyLeaves form p = ⊥

abbrev pub ManyLeaves : Form → Part → Type 0
ManyLeaves form (leaves ps) = AllByRecursion (LeafFits form) ps × (1 ≤ length ps)
ManyLeaves form p = ⊥

abbrev pub CountLeaves : Form → ℕ → Part → Type 0
CountLeaves form k (leaves ps) = AllByRecursion (LeafFits form) ps × (length ps ≡ k)
CountLeaves form k p = ⊥

-- a raw element, or none, or several
abbrev pub OneRaw : Part → Type 0
OneRaw (one_raw x) = IsRawElement x
OneRaw p = ⊥

abbrev pub OptionalRaw : Part → Type 0
OptionalRaw absent = Unit {0}
OptionalRaw (one_raw x) = IsRawElement x
OptionalRaw p = ⊥

abbrev pub AnyRaws : Part → Type 0
AnyRaws (raws xs) = AllByRecursion IsRawElement xs
AnyRaws p = ⊥

abbrev pub ManyRaws : Part → Type 0
ManyRaws (raws xs) = AllByRecursion IsRawElement xs × (1 ≤ length xs)
ManyRaws p = ⊥

abbrev pub CountRaws : ℕ → Part → Type 0
CountRaws k (raws xs) = AllByRecursion IsRawElement xs × (length xs ≡ k)
CountRaws k p = ⊥

-- a record, or none, or several
abbrev pub OneRecord : Table → Table → Part → Type 0
OneRecord t u (one_record p) = RecordFits t u [] p
OneRecord t u p = ⊥

abbrev pub OptionalRecord : Table → Table → Part → Type 0
OptionalRecord t u absent = Unit {0}
OptionalRecord t u (one_record p) = RecordFits t u [] p
OptionalRecord t u p = ⊥

abbrev pub AnyRecords : Table → Table → Part → Type 0
AnyRecords t u (records ps) = RecordsFit t u [] ps
AnyRecords t u p = ⊥

abbrev pub ManyRecords : Table → Table → Part → Type 0
ManyRecords t u (records ps) = RecordsFit t u [] ps × (1 ≤ length ps)
ManyRecords t u p = ⊥

abbrev pub CountRecords : Table → Table → ℕ → Part → Type 0
CountRecords t u k (records ps) = RecordsFit t u [] ps × (length ps ≡ k)
CountRecords t u k p = ⊥

-- a message's element
abbrev pub OneMessage : Part → Type 0
OneMessage (one_raw x) = IsRawElement x
OneMessage (message n p) = MessageFits n p
OneMessage p = ⊥

-- what a column of the table holds
abbrev pub FitsAs : Table → Shape → Often → Part → Type 0
FitsAs t (Leaf form) One p = OneLeaf form p
FitsAs t (Leaf form) Optional p = OptionalLeaf form p
FitsAs t (Leaf form) Any p = AnyLeaves form p
FitsAs t (Leaf form) Many p = ManyLeaves form p
FitsAs t (Leaf form) (Count k) p = CountLeaves form k p
FitsAs t Raw One p = OneRaw p
FitsAs t Raw Optional p = OptionalRaw p
FitsAs t Raw Any p = AnyRaws p
FitsAs t Raw Many p = ManyRaws p
FitsAs t Raw (Count k) p = CountRaws k p
FitsAs t (Record u) One p = OneRecord t u p
FitsAs t (Record u) Optional p = OptionalRecord t u p
FitsAs t (Record u) Any p = AnyRecords t u p
FitsAs t (Record u) Many p = ManyRecords t u p
FitsAs t (Record u) (Count k) p = CountRecords t u k p
FitsAs t Message (Count k) p = OneMessage p
FitsAs t Message o p = ⊥

abbrev pub Fits : Table → Column → Part → Type 0
Fits t c p = FitsAs t c.shape c.often p

-- a part for each column
abbrev pub AllFit : Table → List Column → List Part → Type 0
AllFit t [] [] = Unit {0}
AllFit t [] (p ∷ ps) = ⊥
AllFit t (c ∷ cs) [] = ⊥
AllFit t (c ∷ cs) (p ∷ ps) = Fits t c p × AllFit t cs ps

-- a whole element: its start, the events of a record, its end
pub record IsWhole (t : Table) (n : Text) (v : List Event) : Type 0 where
  pub inner : List Event
  pub accepted : IsAccepted t [] inner
  pub whole : v ≡ opens n [] ∷ (inner ++ closes n ∷ [])
