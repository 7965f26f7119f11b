-- The tokens of a stream.
use Rattle.std.specs.Prelude.{List}
use Rattle.mos_fields.specs.Characters.{Text}
use Rattle.mos_tables.specs.Events.{Attribute}

-- A start tag and an empty tag: the name, the attributes with their values, and the tag as it was written.
-- An end tag: the name. A text: as it was written, and the characters that it stands for.
-- The rest of a raw element behind its start tag, as it was written: a raw element is its start tag and this, or one
-- empty tag. U+FEFF before a message. The XML declaration `<?xml ..?>`.
pub data Token : Type 0 where
  open_tag : Text → List Attribute → Text → Token
  empty_tag : Text → List Attribute → Text → Token
  close_tag : Text → Token
  text : Text → Text → Token
  tail : Text → Token
  mark : Token
  declaration : Token
