-- The lines that are written of messages and of their number.
use Rattle.std.specs.Prelude.{ℕ, Bool, cond, List, [], ◌∷◌, ◌++◌, ◌||◌, drop, codes}
use Rattle.std.specs.Fmt.{decimal}
pub use Rattle.line_texts.specs.Texts.{printed_text, refused_line}
use Rattle.mos_fields.specs.Characters.{Text}
use Rattle.mos_fields.specs.Fields.{name_of, same}
use Rattle.mos_fields.specs.Names.{is_further}
use Rattle.mos_fields.specs.declared.field.Field.TheVariants as fields
use Rattle.mos_tables.specs.Events.{Event, leaf, raw, opens, closes}
use Rattle.mos_lexer.specs.Units.{Found}

-- ---- what of a message is printed

-- the text that stands in front
abbrev pub text_in_front : List Event → Text
text_in_front (leaf n g x ∷ es) = x
text_in_front es = []

-- behind a text that stands in front
abbrev pub behind_text : List Event → List Event
behind_text (leaf n g x ∷ es) = es
behind_text es = es

-- the message's element and what follows it: behind `mos` stand the names of both ends, and perhaps a messageID
abbrev pub message_part : List Event → List Event
message_part es = behind_text (drop 3 es)

-- the name that stands in front: ASCII characters, which are their own bytes in UTF-8
unfoldable pub name_in_front : Text → Text
name_in_front [] = []
name_in_front (c ∷ cs) = cond (is_further c) (c ∷ name_in_front cs) []

-- the name of a raw element, behind its `<`
unfoldable pub raw_name : Text → Text
raw_name [] = []
raw_name (c ∷ cs) = name_in_front cs

-- the name of the element that begins in front
abbrev pub element_name : List Event → Text
element_name (opens n g ∷ es) = n
element_name (raw f x ∷ es) = raw_name x
element_name es = []

-- a roID or an objID
abbrev pub is_identifier : Text → Bool
is_identifier n = same n (name_of fields.RoID) || same n (name_of fields.ObjID)

-- the roID or objID that the element in front begins with
abbrev pub identifier : List Event → Text
identifier (opens n g ∷ leaf m h x ∷ es) = cond (is_identifier m) x []
identifier es = []

-- an ID, or `-` where there is none or an empty one
abbrev pub shown_identifier : Text → List ℕ
shown_identifier [] = 45 ∷ []
shown_identifier (c ∷ cs) = printed_text (c ∷ cs)

-- what stands behind the place in the line of a message
abbrev pub message_line : List Event → List ℕ
message_line es = (32 ∷ element_name (message_part es)) ++ (32 ∷ printed_text (text_in_front (drop 1 es))) ++ (32 ∷ printed_text (text_in_front (drop 2 es))) ++ (32 ∷ shown_identifier (identifier (message_part es))) ++ 10 ∷ []

-- The line of a message: the code unit that its `<mos` begins with, its name, mosID, ncsID, and its roID or objID.
abbrev pub shown_line : Found → List ℕ
shown_line f = decimal f.began ++ message_line f.value

-- ---- counts

-- how many messages there are, and how many code units
abbrev pub count_line : ℕ → ℕ → List ℕ
count_line messages units = decimal messages ++ codes " messages, " ++ decimal units ++ codes " units\n"
