-- Paths, as the system takes them.
use Rattle.std.specs.Prelude.{ℕ, List}
use Rattle.std.specs.List.{flat_map}
use Rattle.std.specs.Char.{encode_utf8}
use Rattle.mos_fields.specs.Characters.{Text}

-- a text in UTF-8
abbrev pub utf8 : Text → List ℕ
utf8 x = flat_map encode_utf8 x
