-- The end tag of a message in bytes.
use Rattle.std.specs.Prelude.{◌≡◌, ℕ, List, [], ◌∷◌, ◌++◌}

-- `</mos>` in UTF-16BE
abbrev pub end_tag : List ℕ
end_tag = 0 ∷ 60 ∷ 0 ∷ 47 ∷ 0 ∷ 109 ∷ 0 ∷ 111 ∷ 0 ∷ 115 ∷ 0 ∷ 62 ∷ []

-- these bytes begin with it
abbrev pub BeginsWithEnd : List ℕ → Type 0
BeginsWithEnd bytes = (after : List ℕ) × (bytes ≡ end_tag ++ after)

-- it stands somewhere in these bytes, whether or not where a code unit begins
pub record HoldsEnd (bytes : List ℕ) : Type 0 where
  pub before : List ℕ
  pub after : List ℕ
  pub is : bytes ≡ before ++ (end_tag ++ after)
