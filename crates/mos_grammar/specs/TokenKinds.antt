-- What a token shows behind the tokens before it, kind by kind. Of several kinds the first in their order is its fault.
use Rattle.std.specs.Prelude.{◌≡◌, true, false, List, [], Option, Some, None, Result, Ok, Err, ◌⊎◌}
use Rattle.mos_fields.specs.Characters.{Text}
use Rattle.mos_fields.specs.Fields.{same}
use Rattle.mos_fields.specs.Raw.{is_tail}
use Rattle.mos_fields.specs.Forms.{is_white}
use Rattle.mos_tables.specs.declared.table.Table.TheVariants.{Envelope}
use Rattle.mos_grammar.specs.Tokens.{Token, open_tag, empty_tag, close_tag, text, tail, mark, declaration}
use Rattle.mos_grammar.specs.declared.fault.Fault.{Fault}
use Rattle.mos_grammar.specs.declared.fault.Fault.TheVariants.{Value as wrong_value, Tag as misplaced}
use Rattle.mos_grammar.specs.Records.{OpenField, field_events, end_fault}
use Rattle.mos_grammar.specs.RecordMachine.{Frame, State, at, complete, between, in_field, behind_text, in_raw}
use Rattle.mos_grammar.specs.Streams.{mos_name, may_mark, may_declare, Position, before_message, inside, message_step}
use Rattle.mos_grammar.specs.Kinds.{TagShows, First}

-- the text of a field is not of its type
abbrev pub TextShows : Text → OpenField → List Text → Text → Fault → Type 0
TextShows n o taken y k = (field_events n o taken y ≡ None) × (k ≡ wrong_value o.field)

-- an end tag between the elements of a record: it is not the record's, or the record lacks a field
abbrev pub EndShows : Frame → Text → Fault → Type 0
EndShows f n k = ((same f.name n ≡ false) × (k ≡ misplaced)) ⊎ ((same f.name n ≡ true) × (end_fault f.table f.before ≡ Some k))

-- between the elements of a record
abbrev pub BetweenShows : Frame → Token → Fault → Type 0
BetweenShows f (open_tag n g tag) k = TagShows f.table f.taken f.before n g false k
BetweenShows f (empty_tag n g tag) k = TagShows f.table f.taken f.before n g true k
BetweenShows f (close_tag n) k = EndShows f n k
BetweenShows f (text x y) k = (is_white x ≡ false) × (k ≡ misplaced)
BetweenShows f t k = k ≡ misplaced

-- Behind the start tag of a field. At any tag its text is empty, which may not be of its type.
abbrev pub FieldTokenShows : Frame → Text → OpenField → Token → Fault → Type 0
FieldTokenShows f n o (text x y) k = TextShows n o f.taken y k
FieldTokenShows f n o (close_tag m) k = TextShows n o f.taken [] k ⊎ ((same n m ≡ false) × (k ≡ misplaced))
FieldTokenShows f n o (open_tag m g tag) k = TextShows n o f.taken [] k ⊎ (k ≡ misplaced)
FieldTokenShows f n o (empty_tag m g tag) k = TextShows n o f.taken [] k ⊎ (k ≡ misplaced)
FieldTokenShows f n o t k = k ≡ misplaced

-- behind the text of a field
abbrev pub BehindTextShows : Text → Token → Fault → Type 0
BehindTextShows n (close_tag m) k = (same n m ≡ false) × (k ≡ misplaced)
BehindTextShows n t k = k ≡ misplaced

-- behind the start tag of a raw element
abbrev pub RawShows : Text → Token → Fault → Type 0
RawShows n (tail x) k = (is_tail n x ≡ false) × (k ≡ misplaced)
RawShows n t k = k ≡ misplaced

abbrev pub StateShows : State → Token → Fault → Type 0
StateShows (complete v) t k = k ≡ misplaced
StateShows (at between f fs) t k = BetweenShows f t k
StateShows (at (in_field n o) f fs) t k = FieldTokenShows f n o t k
StateShows (at (behind_text n o es) f fs) t k = BehindTextShows n t k
StateShows (at (in_raw n p tag) f fs) t k = RawShows n t k

-- Before a message. An empty tag of its name lacks the fields of an envelope.
abbrev pub PositionShows : Position → Token → Fault → Type 0
PositionShows (inside s) t k = StateShows s t k
PositionShows (before_message g) (open_tag n a tag) k = (same mos_name n ≡ false) × (k ≡ misplaced)
PositionShows (before_message g) (empty_tag n a tag) k = (k ≡ misplaced) ⊎ ((same mos_name n ≡ true) × (end_fault Envelope [] ≡ Some k))
PositionShows (before_message g) (close_tag n) k = k ≡ misplaced
PositionShows (before_message g) (text x y) k = (is_white x ≡ false) × (k ≡ misplaced)
PositionShows (before_message g) (tail x) k = k ≡ misplaced
PositionShows (before_message g) mark k = (may_mark g ≡ false) × (k ≡ misplaced)
PositionShows (before_message g) declaration k = (may_declare g ≡ false) × (k ≡ misplaced)

abbrev pub fault_in : Result Position Fault → Option Fault
fault_in (Ok p) = None
fault_in (Err k) = Some k

-- The fault of a token is the first kind of what it shows; where it shows none, it fits.
abbrev pub FaultsAreFirst : Type 0
FaultsAreFirst = (p : Position) (t : Token) → First (PositionShows p t) (fault_in (message_step p t))
