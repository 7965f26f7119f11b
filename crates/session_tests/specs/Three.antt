-- The names of three devices.
use Rattle.std.specs.Prelude.{ℕ, List, [], ◌∷◌}

-- `a`, `b` and `c`
abbrev pub three : List (List ℕ)
three = (97 ∷ []) ∷ (98 ∷ []) ∷ (99 ∷ []) ∷ []
