-- The encodings of a message, as characters and as code units.
use Rattle.std.specs.Prelude.{◌≡◌, ℕ, true, List, [], ◌∷◌, ◌++◌, length, ◌≤◌}
use Rattle.mos_fields.specs.Characters.{are_allowed, units_of}
use Rattle.mos_tables.specs.Events.{Event}
use Rattle.mos_grammar.specs.Tokens.{Token}
use Rattle.mos_grammar.specs.Streams.{before_prolog, IsMessage}
use Rattle.mos_lexer.specs.Lexing.{WritesTokens}
use Rattle.mos_lexer.specs.Units.{message_limit}

-- The characters are what may stand before a message and the message with this value: tokens of it, each written as
-- tokens are.
abbrev pub EncodesChars : List Event → List ℕ → Type 0
EncodesChars v c = (ts : List Token) × WritesTokens ts c × IsMessage before_prolog v ts

-- The code units are those of allowed characters that encode the message, and not too many.
pub record Encodes (v : List Event) (us : List ℕ) : Type 0 where
  pub chars : List ℕ
  pub allowed : are_allowed chars ≡ true
  pub units : us ≡ units_of chars
  pub encodes : EncodesChars v chars
  pub short : length us ≤ message_limit

-- The code units are encodings of these messages, one after another.
abbrev pub AreEncodings : List (List Event) → List ℕ → Type 0
AreEncodings [] us = us ≡ []
AreEncodings (v ∷ vs) us = (x : List ℕ) × (r : List ℕ) × Encodes v x × (us ≡ x ++ r) × AreEncodings vs r
