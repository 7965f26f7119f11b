-- The value of a record, as a flat list of what a writer of its canonical encoding would write one after another.
use Rattle.std.specs.Prelude.{List}
use Rattle.mos_fields.specs.Characters.{Text}
use Rattle.mos_fields.specs.declared.field.Field.{Field}

-- an attribute of a start tag, its value without references
pub record Attribute : Type 0 where
  pub name : Text
  pub value : Text

-- A field with a text: its name, the attributes that its table names, and the text in the canonical form of its type.
-- A raw element: the field that it is (`Kept` where its table does not name it), and the element as it was written.
-- The start and the end of a record: its name, and the attributes that its table names.
pub data Event : Type 0 where
  leaf : Text → List Attribute → Text → Event
  raw : Field → Text → Event
  opens : Text → List Attribute → Event
  closes : Text → Event
