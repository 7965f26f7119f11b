-- Texts in the canonical form of their fields.
use Rattle.std.specs.Prelude.{◌≡◌, List, [], ◌∷◌, Option, Some, None}
use Rattle.mos_fields.specs.Characters.{Text}
use Rattle.mos_fields.specs.Forms.{reads}
use Rattle.mos_tables.specs.declared.aim.Aim.TheVariants.{Nowhere, AtStory, AtItem}
use Rattle.mos_tables.specs.declared.column.Column.{Column}
use Rattle.mos_tables.specs.declared.column.Shape.{Shape}
use Rattle.mos_tables.specs.declared.column.Shape.TheVariants.{Leaf, Record, Message}
use Rattle.mos_tables.specs.declared.table.Table.{Table}
use Rattle.mos_tables.specs.declared.table.Table.TheVariants.{Envelope, NoFields, Source}
use Rattle.mos_tables.specs.Tables.{columns, source_column}
use Rattle.mos_tables.specs.Events.{Attribute, Event, leaf, raw, opens, closes}
use Rattle.mos_grammar.specs.Records.{column_of, message_of}

-- the columns of a record; an element_source may have what any target asks for
abbrev pub inside_columns : Table → List Column
inside_columns (Source o a) = source_column o Nowhere ∷ source_column o AtStory ∷ source_column o AtItem ∷ []
inside_columns t = columns t

-- the text is the canonical text of the field's type; this says nothing of elements that are no fields with a text
abbrev pub TextFitsAs : Shape → Text → Type 0
TextFitsAs (Leaf form) x = reads form [] x ≡ Some x
TextFitsAs s x = Unit {0}

abbrev pub TextFits : Option Column → Text → Type 0
TextFits None x = Unit {0}
TextFits (Some c) x = TextFitsAs c.shape x

-- the table of a record inside
abbrev pub or_no_fields : Option Table → Table
or_no_fields None = NoFields
or_no_fields (Some u) = u

abbrev pub table_of_shape : Text → List Attribute → Shape → Table
table_of_shape n g (Record u) = u
table_of_shape n g Message = or_no_fields (message_of n g)
table_of_shape n g s = NoFields

abbrev pub table_of_column : Text → List Attribute → Option Column → Table
table_of_column n g None = NoFields
table_of_column n g (Some c) = table_of_shape n g c.shape

abbrev pub table_inside : Table → Text → List Attribute → Table
table_inside t n g = table_of_column n g (column_of (inside_columns t) n)

-- Each text is that of its field's type, by the column of its name in the innermost record; the tables are those of the
-- open records, the innermost first. The outermost element is an envelope.
abbrev pub TextsFit : List Table → List Event → Type 0
TextsFit ts [] = Unit {0}
TextsFit (t ∷ ts) (leaf n g x ∷ es) = TextFits (column_of (inside_columns t) n) x × TextsFit (t ∷ ts) es
TextsFit (t ∷ ts) (raw f x ∷ es) = TextsFit (t ∷ ts) es
TextsFit (t ∷ ts) (opens n g ∷ es) = TextsFit (table_inside t n g ∷ (t ∷ ts)) es
TextsFit (t ∷ ts) (closes n ∷ es) = TextsFit ts es
TextsFit [] (leaf n g x ∷ es) = TextsFit [] es
TextsFit [] (raw f x ∷ es) = TextsFit [] es
TextsFit [] (opens n g ∷ es) = TextsFit (Envelope ∷ []) es
TextsFit [] (closes n ∷ es) = TextsFit [] es

-- each text of a message is in the canonical form of its field
abbrev pub HasFittingTexts : List Event → Type 0
HasFittingTexts v = TextsFit [] v
