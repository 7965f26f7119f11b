-- Messages in their canonical encoding.
use Rattle.std.specs.Prelude.{◌≡◌, ℕ, List}
use Rattle.std.specs.List.{flat_map}
use Rattle.mos_fields.specs.Characters.{bytes_of, units_of}
use Rattle.mos_tables.specs.Canonical.{canonical}
use Rattle.mos_lexer.specs.Units.{Found}

-- the canonical encoding of a message that was read, in bytes
abbrev pub encoding_of : Found → List ℕ
encoding_of f = bytes_of (units_of (canonical f.value))

-- those of messages, one after another
abbrev pub AreEncoded : List Found → List ℕ → Type 0
AreEncoded found text = text ≡ flat_map encoding_of found
