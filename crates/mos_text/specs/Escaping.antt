-- The canonical escaping, by code units.
use Rattle.std.specs.Prelude.{ℕ, cond, List, [], ◌∷◌, codes, ◌==◌}
use Rattle.std.specs.List.{flat_map}

-- the code units that a unit becomes: those of a reference where it is one of the five characters
abbrev pub escaped_unit : ℕ → List ℕ
escaped_unit u = cond (u == 60) (codes "&lt;") (cond (u == 62) (codes "&gt;") (cond (u == 38) (codes "&amp;") (cond (u == 34) (codes "&quot;") (cond (u == 39) (codes "&apos;") (u ∷ [])))))

abbrev pub escaped_units : List ℕ → List ℕ
escaped_units us = flat_map escaped_unit us
