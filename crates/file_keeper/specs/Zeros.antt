-- What stands before the zeros at the end of some bytes.
use Rattle.std.specs.Prelude.{◌≡◌, ◌≢◌, ◌⊎◌, ℕ, ◌-◌, ◌≤◌, List, drop, length, slice_get, Some}
use Rattle.std.specs.List.{AllByRecursion}

-- all behind the first so many bytes are zeros, and the last of these isn't
pub record IsContent (bytes : List ℕ) (count : ℕ) : Type 0 where
  pub within : count ≤ length bytes
  pub zeros : AllByRecursion (λ b. b ≡ 0) (drop count bytes)
  pub last : (count ≡ 0) ⊎ (slice_get bytes (count - 1) ≢ Some 0)
