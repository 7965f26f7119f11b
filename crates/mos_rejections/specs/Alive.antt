-- When characters are tokens that begin a message, and the beginning of one more token.
use Rattle.std.specs.Prelude.{◌≡◌, ℕ, Bool, true, false, List, [], ◌∷◌, ◌++◌, ◌||◌, not}
use Rattle.mos_fields.specs.Names.{is_empty}
use Rattle.mos_fields.specs.Characters.{Text}
use Rattle.mos_tables.specs.Events.{Event}
use Rattle.mos_grammar.specs.Tokens.{Token, open_tag, text, tail, mark}
use Rattle.mos_grammar.specs.Streams.{before_prolog, IsMessage, BeginsMessage}
use Rattle.mos_lexer.specs.Lexing.{Written, Ends, meets_mark}

-- the tokens begin a message and are not all of it
abbrev pub IsOpenMessage : List Token → Type 0
IsOpenMessage ts = (t : Token) × (rest : List Token) × (v : List Event) × IsMessage before_prolog v (ts ++ t ∷ rest)

-- The front of characters is written as the tokens are, and these characters follow it. A text is whole where a tag
-- follows, or U+FEFF that is a token.
abbrev pub Fronts : List Token → List ℕ → List ℕ → Type 0
Fronts [] x p = x ≡ []
Fronts (t ∷ ts) x p = (y : List ℕ) × (r : List ℕ) × Written t y × Ends t ts (r ++ p) × (x ≡ y ++ r) × Fronts ts r p

-- no `<mos>` was read
abbrev pub is_before_mos : List Token → Bool
is_before_mos [] = true
is_before_mos (open_tag n g raw ∷ ts) = false
is_before_mos (t ∷ ts) = is_before_mos ts

-- the rest of a raw element does not follow
abbrev pub IsNoRaw : List Token → Type 0
IsNoRaw ts = (x : Text) → BeginsMessage before_prolog (ts ++ tail x ∷ []) → ⊥

-- Which tokens may follow, whether they fit or not. Behind the start tag of a raw element only its rest follows, up to
-- its end tag. Before `<mos>` U+FEFF is a token behind white space; in a message it is a character of a text.
abbrev pub MayFollow : List Token → Token → Type 0
MayFollow ts (tail x) = BeginsMessage before_prolog (ts ++ tail x ∷ [])
MayFollow ts mark = IsNoRaw ts × (is_before_mos ts ≡ true)
MayFollow ts (text raw y) = IsNoRaw ts × (is_before_mos ts ≡ true → meets_mark raw ≡ false)
MayFollow ts t = IsNoRaw ts

abbrev pub is_text : Token → Bool
is_text (text raw y) = true
is_text t = false

-- The characters begin a token that may follow, and are not all of it. A text may always go on.
pub record BeginsToken (ts : List Token) (p : List ℕ) : Type 0 where
  pub token : Token
  pub more : List ℕ
  pub unfinished : (is_text token || not (is_empty more)) ≡ true
  pub written : Written token (p ++ more)
  pub may_follow : MayFollow ts token

-- The characters are tokens that begin a message, and then the beginning of one more token.
pub record IsAlive (c : List ℕ) : Type 0 where
  pub tokens : List Token
  pub front : List ℕ
  pub part : List ℕ
  pub whole : c ≡ front ++ part
  pub fronts : Fronts tokens front part
  pub message : IsOpenMessage tokens
  pub begins : BeginsToken tokens part
