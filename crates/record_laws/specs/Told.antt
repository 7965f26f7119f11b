-- The one fault of a token: the first kind of its rows, and of two of one kind that of the part that is looked at first.
use Rattle.std.specs.Prelude.{◌≡◌, ◌⊎◌, ◌≤◌, ◌<◌, Bool, true, false, List, [], ◌∷◌, Option, Some, None}
use Rattle.mos_fields.specs.declared.field.Field.{Field}
use Rattle.mos_fields.specs.declared.field.Field.TheVariants as fields
use Rattle.mos_fields.specs.Characters.{Text}
use Rattle.mos_fields.specs.Fields.{same_field, same, name_of}
use Rattle.mos_fields.specs.Forms.{among}
use Rattle.mos_tables.specs.declared.column.Column.{Column}
use Rattle.mos_tables.specs.declared.table.Table.{Table}
use Rattle.mos_tables.specs.declared.table.Table.TheVariants.{Envelope}
use Rattle.mos_tables.specs.Events.{Attribute}
use Rattle.mos_tables.specs.Tables.{columns, attribute_of_table, attribute_of_form, words_of}
use Rattle.mos_grammar.specs.declared.fault.Fault.{Fault}
use Rattle.mos_grammar.specs.declared.fault.Fault.TheVariants.{Twice as twice, Order as out_of_order, Missing as missing, Value as wrong_value, Tag as misplaced}
use Rattle.mos_grammar.specs.Tokens.{Token, open_tag, empty_tag, close_tag, text, tail, mark, declaration}
use Rattle.mos_grammar.specs.Records.{Child, seen_of, wanted, values_of, order_of, OpenField, Role, out_of_place, leaf_role, raw_role, record_role}
use Rattle.mos_grammar.specs.RecordMachine.{Frame, State, at, complete, between, in_field, behind_text, in_raw}
use Rattle.mos_grammar.specs.Streams.{mos_name, Position, before_message, inside}
use Rattle.record_laws.specs.Words.{element_role}
use Rattle.record_laws.specs.Rows.{IsTwice, IsOrder, IsMissing, EndRow, IsWrong, HasAll, BetweenRow, InFieldRow, StateRow, TokenRow}

-- Of the faults of two parts of a token the one whose kind comes first; of two of one kind that of the first part.
abbrev pub Sooner : (Fault → Type 0) → (Fault → Type 0) → Fault → Type 0
Sooner P Q k = (P k × ((j : Fault) → Q j → order_of k ≤ order_of j)) ⊎ (Q k × ((j : Fault) → P j → order_of k < order_of j))

-- the tag is no second one, and not out of order
abbrev pub InPlace : List Column → List Field → Text → Type 0
InPlace cs seen n = ((g : Field) → IsTwice cs seen n g → ⊥) × ((g : Field) → IsOrder cs seen n g → ⊥)

-- by the fields that stand
abbrev pub FieldTold : List Column → List Field → Text → Fault → Type 0
FieldTold cs seen n (twice f) = IsTwice cs seen n f
FieldTold cs seen n (out_of_order f) = IsOrder cs seen n f
FieldTold cs seen n (missing f) = InPlace cs seen n × (IsMissing cs seen n f × (same_field f fields.Message ≡ false))
FieldTold cs seen n (wrong_value f) = ⊥
FieldTold cs seen n misplaced = InPlace cs seen n × ((f : Field) × IsMissing cs seen n f × (same_field f fields.Message ≡ true))

-- by the attribute that a table names: not given, given once and none of its words, or given more than once
abbrev pub ValuesTold : Field → List Text → Fault → Type 0
ValuesTold a [] k = k ≡ missing a
ValuesTold a (v ∷ []) k = (among v (words_of a) ≡ false) × (k ≡ wrong_value a)
ValuesTold a (v ∷ w ∷ vs) k = k ≡ twice a

abbrev pub AttributeTold : Option Field → List Attribute → Fault → Type 0
AttributeTold None g k = ⊥
AttributeTold (Some a) g k = ValuesTold a (values_of (name_of a) g) k

-- by what the element is: its attribute, and then what an empty tag shows as an end tag
abbrev pub ElementTold : Role → List Text → List Attribute → Bool → Fault → Type 0
ElementTold out_of_place taken g empty k = k ≡ misplaced
ElementTold (leaf_role o) taken g empty k = Sooner (AttributeTold (attribute_of_form o.form) g) (λ j. (empty ≡ true) × IsWrong o taken [] × (j ≡ wrong_value o.field)) k
ElementTold (raw_role f) taken g empty k = ⊥
ElementTold (record_role f u h) taken g empty k = Sooner (AttributeTold (attribute_of_table u) g) (λ j. (empty ≡ true) × EndRow (wanted u []) [] j) k

abbrev pub RoomTold : Table → List Text → List Child → Text → List Attribute → Bool → Fault → Type 0
RoomTold t taken before n g empty k = (HasAll t before n × (k ≡ misplaced)) ⊎ ((HasAll t before n → ⊥) × ElementTold (element_role t before n g) taken g empty k)

-- a start tag, or an empty tag, behind these children: its record's fields come first
abbrev pub TagTold : Table → List Text → List Child → Text → List Attribute → Bool → Fault → Type 0
TagTold t taken before n g empty k = Sooner (FieldTold (columns t) (seen_of t before) n) (RoomTold t taken before n g empty) k

abbrev pub BetweenTold : Frame → Token → Fault → Type 0
BetweenTold f (open_tag n g tag) k = TagTold f.table f.taken f.before n g false k
BetweenTold f (empty_tag n g tag) k = TagTold f.table f.taken f.before n g true k
BetweenTold f (close_tag n) k = BetweenRow f (close_tag n) k
BetweenTold f (text x y) k = BetweenRow f (text x y) k
BetweenTold f t k = k ≡ misplaced

abbrev pub InFieldTold : Frame → Text → OpenField → Token → Fault → Type 0
InFieldTold f n o (text x y) k = InFieldRow f n o (text x y) k
InFieldTold f n o (close_tag m) k = Sooner (λ j. IsWrong o f.taken [] × (j ≡ wrong_value o.field)) (λ j. (same n m ≡ false) × (j ≡ misplaced)) k
InFieldTold f n o (open_tag m g tag) k = Sooner (λ j. IsWrong o f.taken [] × (j ≡ wrong_value o.field)) (λ j. j ≡ misplaced) k
InFieldTold f n o (empty_tag m g tag) k = Sooner (λ j. IsWrong o f.taken [] × (j ≡ wrong_value o.field)) (λ j. j ≡ misplaced) k
InFieldTold f n o t k = k ≡ misplaced

abbrev pub StateTold : State → Token → Fault → Type 0
StateTold (complete v) t k = k ≡ misplaced
StateTold (at between f fs) t k = BetweenTold f t k
StateTold (at (in_field n o) f fs) t k = InFieldTold f n o t k
StateTold (at (behind_text n o es) f fs) t k = StateRow (at (behind_text n o es) f fs) t k
StateTold (at (in_raw n p tag) f fs) t k = StateRow (at (in_raw n p tag) f fs) t k

abbrev pub TokenTold : Position → Token → Fault → Type 0
TokenTold (inside s) t k = StateTold s t k
TokenTold (before_message g) (empty_tag n a tag) k = Sooner (λ j. (same mos_name n ≡ true) × EndRow (columns Envelope) [] j) (λ j. j ≡ misplaced) k
TokenTold (before_message g) (open_tag n a tag) k = TokenRow (before_message g) (open_tag n a tag) k
TokenTold (before_message g) (close_tag n) k = TokenRow (before_message g) (close_tag n) k
TokenTold (before_message g) (text x y) k = TokenRow (before_message g) (text x y) k
TokenTold (before_message g) (tail x) k = TokenRow (before_message g) (tail x) k
TokenTold (before_message g) mark k = TokenRow (before_message g) mark k
TokenTold (before_message g) declaration k = TokenRow (before_message g) declaration k
