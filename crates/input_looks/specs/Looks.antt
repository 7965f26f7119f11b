-- What the first bytes of an input look like that isn't a stream of messages.
use Rattle.std.specs.Prelude.{ℕ, Bool, true, false, List, [], ◌∷◌, Option, Some, None, ◌&&◌, ◌||◌, ◌==◌, nat_lt, if◌then◌else◌}
use Rattle.input_looks.specs.declared.look.Look.{Look}
use Rattle.input_looks.specs.declared.look.Look.TheVariants.{Utf8, LowByteFirst}
use Rattle.input_looks.specs.declared.noted.Noted.{Noted}

-- a message may begin with this ASCII character, or with white space before it
abbrev pub begins : ℕ → Bool
begins b = b == 60 || b == 32 || b == 9 || b == 10 || b == 13

-- Text in UTF-8 has a character of ASCII in each byte, or the mark U+FEFF in three; with the low byte first the high one of such a
-- character is 0 and comes second, and that mark is 255 and 254. No stream of messages begins so.
abbrev pub look_of : List ℕ → Option Look
look_of (a ∷ b ∷ bytes) = if a == 239 && b == 187 then Some Utf8 else (if a == 255 && b == 254 then Some LowByteFirst else
    (if begins a then (if b == 0 then Some LowByteFirst else (if nat_lt b 128 then Some Utf8 else None)) else None))
look_of bytes = None

-- the first line ends with a carriage return and a line feed
abbrev pub has_return : List ℕ → Bool
has_return (a ∷ b ∷ bytes) = (a == 13 && b == 10) || has_return (b ∷ bytes)
has_return bytes = false

-- the source that a noted one reads from
abbrev pub noted_inner : {S : Type 0} → Noted S → S
noted_inner n = n.inner
