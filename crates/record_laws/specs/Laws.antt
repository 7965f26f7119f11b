-- What holds of records by their tables.
use Rattle.std.specs.Prelude.{◌≡◌, false, cond, List, [], ◌∷◌, ◌++◌, Some, None, Ok, Err, ◌↔◌}
use Rattle.mos_fields.specs.declared.field.Field.{Field}
use Rattle.mos_fields.specs.declared.field.Field.TheVariants as fields
use Rattle.mos_fields.specs.Fields.{same_field}
use Rattle.mos_tables.specs.declared.column.Column.{Column}
use Rattle.mos_grammar.specs.declared.fault.Fault.{Fault}
use Rattle.mos_grammar.specs.declared.fault.Fault.TheVariants.{Twice as twice, Order as out_of_order, Missing as missing}
use Rattle.mos_fields.specs.Characters.{Text}
use Rattle.mos_tables.specs.declared.table.Table.{Table}
use Rattle.mos_tables.specs.declared.table.Table.TheVariants.{RoAck}
use Rattle.mos_tables.specs.Tables.{columns, is_ack}
use Rattle.mos_tables.specs.Events.{Event}
use Rattle.mos_grammar.specs.Tokens.{Token}
use Rattle.mos_grammar.specs.Records.{Child, times, seen_of, is_full, column_of, lacking, field_fault, wanted, end_fault, Content}
use Rattle.mos_grammar.specs.RecordMachine.{complete}
use Rattle.mos_grammar.specs.Streams.{Stage, IsMessage, Position, before_message, inside, message_step, message_run}
use Rattle.mos_grammar.specs.Kinds.{First}
use Rattle.mos_grammar.specs.TokenKinds.{fault_in}
use Rattle.record_laws.specs.Words.{IsFilled, IsBegun, fields_of, IsContent, IsTableMessage}
use Rattle.record_laws.specs.Told.{TokenTold}
use Rattle.record_laws.specs.Rows.{AsksAtEnd, IsTwice, IsOrder, IsMissing, EndRow, TokenRow}

-- The content of a record, of which each tag is one that the machine admits behind those before it, is just what the table
-- says.
abbrev pub RecordsAreByTable : Type 0
RecordsAreByTable = (t : Table) (all : List Child) (r : List Token) → Content t [] [] all r ↔ IsContent t all r

-- The machine reads just the messages whose records are as their tables say, as these values.
abbrev pub MessagesAreByTable : Type 0
MessagesAreByTable = (g : Stage) (v : List Event) (ts : List Token) → IsTableMessage g v ts ↔ (message_run (before_message g) ts ≡ Ok (inside (complete v)))

-- Tokens are read exactly where they begin such a message.
abbrev pub BeginningsAreByTable : Type 0
BeginningsAreByTable = (g : Stage) (ts : List Token) → ((rest : List Token) × (v : List Event) × IsTableMessage g v (ts ++ rest)) ↔ ((p : Position) × (message_run (before_message g) ts ≡ Ok p))

-- The messages of the grammar are those whose records are as their tables say.
abbrev pub MessagesAreSame : Type 0
MessagesAreSame = (g : Stage) (v : List Event) (ts : List Token) → IsMessage g v ts ↔ IsTableMessage g v ts

-- Behind fields that begin what the columns ask for, nothing is wrong with a tag exactly where the fields with its own do;
abbrev pub TagsAreByTable : Type 0
TagsAreByTable = (t : Table) (seen : List Field) (n : Text) (c : Column) → column_of (columns t) n ≡ Some c → IsBegun (columns t) seen
    → ((field_fault (columns t) seen n ≡ None) × (is_full c.often (times c.field seen) ≡ false)) ↔ IsBegun (columns t) (seen ++ c.field ∷ [])

-- and nothing lacks exactly where they fill them.
abbrev pub EndsAreFilled : Type 0
EndsAreFilled = (t : Table) (seen : List Field) → IsBegun (columns t) seen → (lacking (columns t) seen ≡ None) ↔ IsFilled (columns t) seen

-- What stands so far are the fields of all children, one after another; in roAck those since the last group's status, behind the
-- two of its own.
abbrev pub SeenAreFields : Type 0
SeenAreFields = ((t : Table) (before : List Child) → is_ack t ≡ false → seen_of t before ≡ fields_of before)
    × ((before : List Child) (c : Child) → seen_of RoAck (before ++ c ∷ []) ≡ cond (same_field c.0 fields.Status) (fields.RoID ∷ fields.RoStatus ∷ []) (seen_of RoAck before ++ c.0 ∷ []))

-- The columns that an end tag wants are those that it asks for.
abbrev pub EndsAsk : Type 0
EndsAsk = (t : Table) (seen : List Field) (cs : List Column) → (cs ≡ wanted t seen) ↔ AsksAtEnd t seen cs

-- A tag of a field is a second one exactly where a single field stands already,
abbrev pub TwiceIsByTable : Type 0
TwiceIsByTable = (cs : List Column) (seen : List Field) (n : Text) (f : Field) → (field_fault cs seen n ≡ Some (twice f)) ↔ IsTwice cs seen n f

-- out of order exactly where it is no second one and a field of a later column stands,
abbrev pub OrderIsByTable : Type 0
OrderIsByTable = (cs : List Column) (seen : List Field) (n : Text) (f : Field) → (field_fault cs seen n ≡ Some (out_of_order f)) ↔ IsOrder cs seen n f

-- and shows that a field is missing exactly where it is neither, and that field is the first of an earlier column of which too
-- few stand.
abbrev pub MissingIsByTable : Type 0
MissingIsByTable = (cs : List Column) (seen : List Field) (n : Text) (c : Column) (f : Field) → column_of cs n ≡ Some c
    → (field_fault cs seen n ≡ Some (missing f)) ↔ (((g : Field) → IsTwice cs seen n g → ⊥) × ((g : Field) → IsOrder cs seen n g → ⊥) × IsMissing cs seen n f × (same_field f fields.Message ≡ false))

-- An end tag shows the first field of which too few stand, and nothing else.
abbrev pub EndsAreByTable : Type 0
EndsAreByTable = (t : Table) (before : List Child) (k : Fault) → (end_fault t before ≡ Some k) ↔ EndRow (wanted t (seen_of t before)) (seen_of t before) k

-- The fault of a token is the first kind of the rows that hold of it; where none does, the token fits.
abbrev pub RowsAreTold : Type 0
RowsAreTold = (p : Position) (t : Token) → First (TokenRow p t) (fault_in (message_step p t))

-- And it is just this one: of two rows of one kind, that of the part that is looked at first.
abbrev pub FaultsAreExact : Type 0
FaultsAreExact = (p : Position) (t : Token) (k : Fault) → (message_step p t ≡ Err k) ↔ TokenTold p t k
