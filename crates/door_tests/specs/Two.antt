-- The names of two devices.
use Rattle.std.specs.Prelude.{ℕ, List, [], ◌∷◌}

-- `a` and `b`
abbrev pub two : List (List ℕ)
two = (97 ∷ []) ∷ (98 ∷ []) ∷ []
