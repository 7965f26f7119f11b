-- What a lent token is.
use Rattle.std.specs.Prelude.{◌≡◌, ℕ, true, List, ⊤}
use Rattle.mos_fields.specs.Characters.{IsUtf16, chars_of}
use Rattle.mos_fields.specs.Names.{is_name}
use Rattle.mos_grammar.specs.Tokens.{open_tag, empty_tag, close_tag, text, tail, mark, declaration}
use Rattle.mos_grammar.specs.Tokens.{Token as TokenOf}
use Rattle.mos_tokens.specs.declared.token.Token.{Token}
use Rattle.mos_tokens.specs.declared.token.Token.TheVariants.{OpenTag, EmptyTag, CloseTag, Text, Tail, Mark, Declaration}

-- the token of the grammar: the units of a name are its characters
abbrev pub token_of : Token → TokenOf
token_of (OpenTag n g raw) = open_tag n.now g.now (chars_of raw.now)
token_of (EmptyTag n g raw) = empty_tag n.now g.now (chars_of raw.now)
token_of (CloseTag n) = close_tag n.now
token_of (Text raw y) = text (chars_of raw.now) (chars_of y.now)
token_of (Tail raw) = tail (chars_of raw.now)
token_of Mark = mark
token_of Declaration = declaration

-- a tag of this name, written so
pub record IsTag (n raw : List ℕ) : Type 0 where
  pub name : is_name n ≡ true
  pub written : IsUtf16 raw

-- a text, written so
pub record IsTextToken (raw y : List ℕ) : Type 0 where
  pub written : IsUtf16 raw
  pub resolved : IsUtf16 y

-- its names are names, and its texts are well-formed UTF-16 of allowed characters
abbrev pub IsSound : Token → Type 0
IsSound (OpenTag n g raw) = IsTag n.now raw.now
IsSound (EmptyTag n g raw) = IsTag n.now raw.now
IsSound (CloseTag n) = is_name n.now ≡ true
IsSound (Text raw y) = IsTextToken raw.now y.now
IsSound (Tail raw) = IsUtf16 raw.now
IsSound Mark = ⊤
IsSound Declaration = ⊤
