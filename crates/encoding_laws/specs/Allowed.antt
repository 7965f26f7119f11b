-- Values whose texts have allowed characters only.
use Rattle.std.specs.Prelude.{◌≡◌, true, List}
use Rattle.std.specs.List.{AllByRecursion}
use Rattle.mos_fields.specs.Characters.{are_allowed}
use Rattle.mos_tables.specs.Events.{Event, leaf, raw, opens, closes}

-- XML allows the characters of the text, or of the raw element
abbrev pub HasAllowedText : Event → Type 0
HasAllowedText (leaf n g x) = are_allowed x ≡ true
HasAllowedText (raw f x) = are_allowed x ≡ true
HasAllowedText (opens n g) = Unit {0}
HasAllowedText (closes n) = Unit {0}

-- of each
abbrev pub HasAllowedTexts : List Event → Type 0
HasAllowedTexts es = AllByRecursion HasAllowedText es
