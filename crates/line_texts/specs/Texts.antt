-- Texts as lines have them, and the line of a rejection.
use Rattle.std.specs.Prelude.{ℕ, cond, List, [], ◌∷◌, ◌++◌, ◌==◌, ◌||◌, codes}
use Rattle.std.specs.List.{flat_map}
use Rattle.std.specs.Char.{encode_utf8}
use Rattle.std.specs.Fmt.{decimal}
use Rattle.mos_fields.specs.Characters.{Text}
use Rattle.mos_fields.specs.Fields.{name_of}
use Rattle.mos_fields.specs.declared.field.Field.{Field}
use Rattle.mos_lexer.specs.declared.kind.Kind.{Kind}
use Rattle.mos_lexer.specs.declared.kind.Kind.TheVariants as kinds

-- a character as it is printed: tab, line feed and carriage return as a space
abbrev pub printed : ℕ → ℕ
printed c = cond ((c == 9) || (c == 10) || (c == 13)) 32 c

-- a text as it is printed, in UTF-8
abbrev pub printed_text : Text → List ℕ
printed_text x = flat_map (λ c. encode_utf8 (printed c)) x

-- a kind that names a field
abbrev pub with_field : List ℕ → Field → List ℕ
with_field word f = word ++ (40 ∷ name_of f) ++ 41 ∷ []

abbrev pub kind_text : Kind → List ℕ
kind_text kinds.BadUnit = codes "BadUnit"
kind_text kinds.BadChar = codes "BadChar"
kind_text kinds.Entity = codes "Entity"
kind_text (kinds.Twice f) = with_field (codes "Twice") f
kind_text (kinds.Order f) = with_field (codes "Order") f
kind_text (kinds.Missing f) = with_field (codes "Missing") f
kind_text (kinds.Value f) = with_field (codes "Value") f
kind_text kinds.Tag = codes "Tag"
kind_text kinds.TooLong = codes "TooLong"
kind_text kinds.End = codes "End"

abbrev pub refused_line : ℕ → Kind → List ℕ
refused_line place k = codes "REFUSED " ++ decimal place ++ (32 ∷ kind_text k) ++ 10 ∷ []
