-- The bytes of canonical encodings.
use Rattle.std.specs.Prelude.{ℕ, List, [], ◌∷◌, ◌++◌}
use Rattle.mos_fields.specs.Characters.{Text, bytes_of, units_of}
use Rattle.mos_tables.specs.Events.{Event}
use Rattle.mos_tables.specs.Canonical.{canonical}

-- the bytes of the canonical encoding, each code unit with its high byte first
unfoldable pub encoded : List Event → List ℕ
encoded es = bytes_of (units_of (canonical es))

-- the bytes of code units
unfoldable pub in_bytes : List ℕ → List ℕ
in_bytes us = bytes_of us

-- a start tag and an end tag of a name in ASCII
unfoldable pub start_bytes : Text → List ℕ
start_bytes n = bytes_of (60 ∷ (n ++ 62 ∷ []))

unfoldable pub end_bytes : Text → List ℕ
end_bytes n = bytes_of (60 ∷ 47 ∷ (n ++ 62 ∷ []))

-- a field with a word in ASCII
unfoldable pub word_bytes : Text → Text → List ℕ
word_bytes n x = (start_bytes n ++ in_bytes x) ++ end_bytes n

-- a start tag with one attribute, whose value is in ASCII
unfoldable pub start_with_bytes : Text → Text → Text → List ℕ
start_with_bytes n a x = ((in_bytes (60 ∷ n) ++ in_bytes (32 ∷ (a ++ 61 ∷ 34 ∷ []))) ++ in_bytes x) ++ in_bytes (34 ∷ 62 ∷ [])
