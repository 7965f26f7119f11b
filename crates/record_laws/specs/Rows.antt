-- What each kind of fault means, row by row of the table of kinds: of the table of the record, what stands in it so far, and
-- the token. On one token the kinds go in their order.
use Rattle.std.specs.Prelude.{◌≡◌, ◌⊎◌, ℕ, ◌≤◌, Bool, true, false, List, [], ◌∷◌, ◌++◌, Some, None, ◌&&◌}
use Rattle.mos_fields.specs.declared.field.Field.{Field}
use Rattle.mos_fields.specs.declared.field.Field.TheVariants as fields
use Rattle.mos_fields.specs.Characters.{Text}
use Rattle.mos_fields.specs.Fields.{same_field, same}
use Rattle.mos_fields.specs.Forms.{among, is_white, reads}
use Rattle.mos_fields.specs.Raw.{is_tail}
use Rattle.mos_tables.specs.declared.column.Column.{Column}
use Rattle.mos_tables.specs.declared.column.Often.{Often}
use Rattle.mos_tables.specs.declared.column.Often.TheVariants.{One, Optional, Any, Many, Count}
use Rattle.mos_tables.specs.declared.table.Table.{Table}
use Rattle.mos_tables.specs.declared.table.Table.TheVariants.{Envelope}
use Rattle.mos_tables.specs.Events.{Attribute}
use Rattle.mos_tables.specs.Tables.{columns, is_ack, ack_columns, group_columns, attribute_of_table, attribute_of_form}
use Rattle.mos_grammar.specs.declared.fault.Fault.{Fault}
use Rattle.mos_grammar.specs.declared.fault.Fault.TheVariants.{Twice as twice, Order as out_of_order, Missing as missing, Value as wrong_value, Tag as misplaced}
use Rattle.mos_grammar.specs.Tokens.{Token, open_tag, empty_tag, close_tag, text, tail, mark, declaration}
use Rattle.mos_grammar.specs.Records.{Child, times, seen_of, is_named, column_of, wanted, OpenField, Role, out_of_place, leaf_role, raw_role, record_role}
use Rattle.mos_grammar.specs.RecordMachine.{Frame, State, at, complete, between, in_field, behind_text, in_raw}
use Rattle.mos_grammar.specs.Streams.{mos_name, may_mark, may_declare, Position, before_message, inside}
use Rattle.mos_grammar.specs.Kinds.{AttributeShows}
use Rattle.record_laws.specs.Words.{element_role, is_key}

-- ---- what stands so far

abbrev pub Stands : Field → List Field → Type 0
Stands f seen = 1 ≤ times f seen

-- a column of which one may stand, and no second
abbrev pub IsSingle : Often → Type 0
IsSingle One = Unit {0}
IsSingle Optional = Unit {0}
IsSingle Any = ⊥
IsSingle Many = ⊥
IsSingle (Count m) = ⊥

-- as many as a column asks for at least
abbrev pub IsEnough : Often → ℕ → Type 0
IsEnough One k = 1 ≤ k
IsEnough Optional k = Unit {0}
IsEnough Any k = Unit {0}
IsEnough Many k = 1 ≤ k
IsEnough (Count m) k = m ≤ k

-- all of a column of so many
abbrev pub IsAll : Often → ℕ → Type 0
IsAll One k = ⊥
IsAll Optional k = ⊥
IsAll Any k = ⊥
IsAll Many k = ⊥
IsAll (Count m) k = m ≤ k

-- a field of one of these columns stands
abbrev pub SomeStands : List Column → List Field → Type 0
SomeStands [] seen = ⊥
SomeStands (c ∷ cs) seen = Stands c.field seen ⊎ SomeStands cs seen

-- what a record's end tag asks for: all columns of its table, but in roAck those of a group only where a field of one stands
abbrev pub AsksAtEnd : Table → List Field → List Column → Type 0
AsksAtEnd t seen cs = ((is_ack t ≡ true) × (SomeStands group_columns seen → ⊥) × (cs ≡ ack_columns)) ⊎ ((is_ack t ≡ true → SomeStands group_columns seen) × (cs ≡ columns t))

-- of each of these columns enough stand
abbrev pub AllEnough : List Column → List Field → Type 0
AllEnough [] seen = Unit {0}
AllEnough (c ∷ cs) seen = IsEnough c.often (times c.field seen) × AllEnough cs seen

-- none of these columns is of elements of this name
abbrev pub NoneNamed : List Column → Text → Type 0
NoneNamed [] n = Unit {0}
NoneNamed (c ∷ cs) n = (is_named c n ≡ false) × NoneNamed cs n

-- the column of elements of this name: the first one, with those before and behind it
pub record IsColumn (cs : List Column) (n : Text) (before : List Column) (c : Column) (behind : List Column) : Type 0 where
  pub columns_are : cs ≡ before ++ c ∷ behind
  pub named : is_named c n ≡ true
  pub first : NoneNamed before n

-- the first of these columns of which too few stand is of this field
pub record LacksFirst (cs : List Column) (seen : List Field) (f : Field) : Type 0 where
  pub before : List Column
  pub column : Column
  pub behind : List Column
  pub columns_are : cs ≡ before ++ column ∷ behind
  pub field_is : column.field ≡ f
  pub lacks : IsEnough column.often (times column.field seen) → ⊥
  pub enough : AllEnough before seen

-- ---- the rows of fields

-- Twice: a tag of a single field that stands already
pub record IsTwice (cs : List Column) (seen : List Field) (n : Text) (f : Field) : Type 0 where
  pub before : List Column
  pub column : Column
  pub behind : List Column
  pub is : IsColumn cs n before column behind
  pub field_is : column.field ≡ f
  pub single : IsSingle column.often
  pub stands : Stands column.field seen

-- Order: a tag of a field that isn't single or doesn't stand yet, behind a field of a later column
pub record IsOrder (cs : List Column) (seen : List Field) (n : Text) (f : Field) : Type 0 where
  pub before : List Column
  pub column : Column
  pub behind : List Column
  pub is : IsColumn cs n before column behind
  pub field_is : column.field ≡ f
  pub not_twice : IsSingle column.often → Stands column.field seen → ⊥
  pub later : SomeStands behind seen

-- Missing: a tag of a field before whose column too few stand of another, the first such
pub record IsMissing (cs : List Column) (seen : List Field) (n : Text) (f : Field) : Type 0 where
  pub before : List Column
  pub column : Column
  pub behind : List Column
  pub is : IsColumn cs n before column behind
  pub lacks : LacksFirst before seen f

-- By the fields that stand. No field names a message's element: where it lacks, that is Tag.
abbrev pub FieldRow : List Column → List Field → Text → Fault → Type 0
FieldRow cs seen n (twice f) = IsTwice cs seen n f
FieldRow cs seen n (out_of_order f) = IsOrder cs seen n f
FieldRow cs seen n (missing f) = IsMissing cs seen n f × (same_field f fields.Message ≡ false)
FieldRow cs seen n (wrong_value f) = ⊥
FieldRow cs seen n misplaced = (f : Field) × IsMissing cs seen n f × (same_field f fields.Message ≡ true)

-- Missing at a record's end tag
abbrev pub EndRow : List Column → List Field → Fault → Type 0
EndRow cs seen (twice f) = ⊥
EndRow cs seen (out_of_order f) = ⊥
EndRow cs seen (missing f) = LacksFirst cs seen f × (same_field f fields.Message ≡ false)
EndRow cs seen (wrong_value f) = ⊥
EndRow cs seen misplaced = (f : Field) × LacksFirst cs seen f × (same_field f fields.Message ≡ true)

-- ---- the rows of texts and of whole tags

-- Value: the text isn't of its field's type, or it is a key that a record beside has already
abbrev pub IsWrong : OpenField → List Text → Text → Type 0
IsWrong o taken x = ((o.may_lack && is_white x) ≡ false) × ((reads o.form [] x ≡ None) ⊎ ((is_key o.form ≡ true) × ((k : Text) × (reads o.form [] x ≡ Some k) × (among k taken ≡ true))))

-- Tag: so many elements were asked for, and there are so many
abbrev pub HasAll : Table → List Child → Text → Type 0
HasAll t before n = (c : Column) × (column_of (columns t) n ≡ Some c) × IsAll c.often (times c.field (seen_of t before))

-- By what an element of this name is in the record: Tag, where the table refuses it; Twice, Missing and Value by its attribute;
-- and what an empty tag shows as an end tag.
abbrev pub ElementRow : Role → List Text → List Attribute → Bool → Fault → Type 0
ElementRow out_of_place taken g empty k = k ≡ misplaced
ElementRow (leaf_role o) taken g empty k = AttributeShows (attribute_of_form o.form) g k ⊎ ((empty ≡ true) × IsWrong o taken [] × (k ≡ wrong_value o.field))
ElementRow (raw_role f) taken g empty k = ⊥
ElementRow (record_role f u h) taken g empty k = AttributeShows (attribute_of_table u) g k ⊎ ((empty ≡ true) × EndRow (wanted u []) [] k)

abbrev pub RoomRow : Table → List Text → List Child → Text → List Attribute → Bool → Fault → Type 0
RoomRow t taken before n g empty k = (HasAll t before n × (k ≡ misplaced)) ⊎ ((HasAll t before n → ⊥) × ElementRow (element_role t before n g) taken g empty k)

-- a start tag, or an empty tag, behind these children
abbrev pub TagRow : Table → List Text → List Child → Text → List Attribute → Bool → Fault → Type 0
TagRow t taken before n g empty k = FieldRow (columns t) (seen_of t before) n k ⊎ RoomRow t taken before n g empty k

-- ---- the rows of tokens, by where they stand

-- between the elements of a record
abbrev pub BetweenRow : Frame → Token → Fault → Type 0
BetweenRow f (open_tag n g tag) k = TagRow f.table f.taken f.before n g false k
BetweenRow f (empty_tag n g tag) k = TagRow f.table f.taken f.before n g true k
BetweenRow f (close_tag n) k = ((same f.name n ≡ false) × (k ≡ misplaced)) ⊎ ((same f.name n ≡ true) × EndRow (wanted f.table (seen_of f.table f.before)) (seen_of f.table f.before) k)
BetweenRow f (text x y) k = (is_white x ≡ false) × (k ≡ misplaced)
BetweenRow f t k = k ≡ misplaced

-- Behind the start tag of a field. At any tag its text is empty, which may not be of its type.
abbrev pub InFieldRow : Frame → Text → OpenField → Token → Fault → Type 0
InFieldRow f n o (text x y) k = IsWrong o f.taken y × (k ≡ wrong_value o.field)
InFieldRow f n o (close_tag m) k = (IsWrong o f.taken [] × (k ≡ wrong_value o.field)) ⊎ ((same n m ≡ false) × (k ≡ misplaced))
InFieldRow f n o (open_tag m g tag) k = (IsWrong o f.taken [] × (k ≡ wrong_value o.field)) ⊎ (k ≡ misplaced)
InFieldRow f n o (empty_tag m g tag) k = (IsWrong o f.taken [] × (k ≡ wrong_value o.field)) ⊎ (k ≡ misplaced)
InFieldRow f n o t k = k ≡ misplaced

-- behind the text of a field
abbrev pub BehindTextRow : Text → Token → Fault → Type 0
BehindTextRow n (close_tag m) k = (same n m ≡ false) × (k ≡ misplaced)
BehindTextRow n t k = k ≡ misplaced

-- behind the start tag of a raw element
abbrev pub InRawRow : Text → Token → Fault → Type 0
InRawRow n (tail x) k = (is_tail n x ≡ false) × (k ≡ misplaced)
InRawRow n t k = k ≡ misplaced

abbrev pub StateRow : State → Token → Fault → Type 0
StateRow (complete v) t k = k ≡ misplaced
StateRow (at between f fs) t k = BetweenRow f t k
StateRow (at (in_field n o) f fs) t k = InFieldRow f n o t k
StateRow (at (behind_text n o es) f fs) t k = BehindTextRow n t k
StateRow (at (in_raw n p tag) f fs) t k = InRawRow n t k

-- Before a message. An empty tag of its name lacks the fields of an envelope.
abbrev pub TokenRow : Position → Token → Fault → Type 0
TokenRow (inside s) t k = StateRow s t k
TokenRow (before_message g) (open_tag n a tag) k = (same mos_name n ≡ false) × (k ≡ misplaced)
TokenRow (before_message g) (empty_tag n a tag) k = (k ≡ misplaced) ⊎ ((same mos_name n ≡ true) × EndRow (columns Envelope) [] k)
TokenRow (before_message g) (close_tag n) k = k ≡ misplaced
TokenRow (before_message g) (text x y) k = (is_white x ≡ false) × (k ≡ misplaced)
TokenRow (before_message g) (tail x) k = k ≡ misplaced
TokenRow (before_message g) mark k = (may_mark g ≡ false) × (k ≡ misplaced)
TokenRow (before_message g) declaration k = (may_declare g ≡ false) × (k ≡ misplaced)
