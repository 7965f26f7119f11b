-- Bytes that are given again.
use Rattle.std.specs.Prelude.{ℕ, ◌+◌, List, ◌++◌, Option, Some, None}

-- these bytes, and then what a source has left, where that is told
abbrev pub before : List ℕ → Option (List ℕ) → Option (List ℕ)
before bytes None = None
before bytes (Some left) = Some (bytes ++ left)

-- a bound on what a source still gives, with so many bytes before it
abbrev pub bound_before : ℕ → Option ℕ → Option ℕ
bound_before n None = None
bound_before n (Some bound) = Some (n + bound)

-- a source with bytes that are given before its own
pub record Before (S : Type 0) : Type 0 where
  pub bytes : List ℕ
  pub source : S
