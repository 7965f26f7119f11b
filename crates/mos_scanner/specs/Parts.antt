-- Parts of the code units that are held.
use Rattle.std.specs.Prelude.{◌≡◌, ℕ, true, List, length, take, drop, ◌-◌, ◌≤◌}
use Rattle.std.specs.Char.Escape.{encode_utf16}
use Rattle.mos_fields.specs.Characters.{is_allowed}

-- what is held from one place up to another
abbrev pub part : List ℕ → ℕ → ℕ → List ℕ
part held a b = take (b - a) (drop a held)

-- a character that XML 1.0 allows is held from one place up to another
pub record IsCharacter (held : List ℕ) (here next c : ℕ) : Type 0 where
  pub is : part held here next ≡ encode_utf16 c
  pub allowed : is_allowed c ≡ true
  pub onward : here ≤ next
  pub within : next ≤ length held
