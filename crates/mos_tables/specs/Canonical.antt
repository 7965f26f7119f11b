-- The canonical encoding: no white space, a start and an end tag also for an empty text, attributes in double quotes,
-- and the five characters `<` `>` `&` `"` `'` of a text as their named references. A raw element stands as it was written.
-- It is a list of characters here; `Characters` says how those are code units and bytes.
use Rattle.std.specs.Prelude.{List, [], ◌∷◌, ◌++◌}
use Rattle.std.specs.List.{flat_map}
use Rattle.mos_fields.specs.Characters.{Text}
use Rattle.mos_fields.specs.Escapes.{escaped}
use Rattle.mos_fields.specs.Raw.{end_text}
use Rattle.mos_tables.specs.Events.{Attribute, Event, leaf, raw, opens, closes}

-- a space, the name, `=` and the value in double quotes
abbrev pub attribute_text : Attribute → Text
attribute_text a = 32 ∷ (a.name ++ 61 ∷ 34 ∷ (escaped a.value ++ 34 ∷ []))

-- `<`, the name, the attributes, `>`
abbrev pub start_text : Text → List Attribute → Text
start_text n g = 60 ∷ (n ++ flat_map attribute_text g ++ 62 ∷ [])

-- what one event is written as
abbrev pub event_text : Event → Text
event_text (leaf n g x) = start_text n g ++ escaped x ++ end_text n
event_text (raw f x) = x
event_text (opens n g) = start_text n g
event_text (closes n) = end_text n

-- the canonical encoding of a record's value
unfoldable pub canonical : List Event → Text
canonical es = flat_map event_text es
