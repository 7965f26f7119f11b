-- Two bytes are a code unit.
use Rattle.std.proofs.Common.{◌≡◌, ℕ, ◌+◌, ◌*◌, ◌/◌, ◌≤◌, List, [], ◌∷◌, length, arith}
use Rattle.mos_fields.specs.Characters.{units_in}

fewest : (bytes : List ℕ) → 2 * length (units_in bytes) ≤ length bytes
unfolding units_in
fewest [] = omega arith
fewest (a ∷ []) = omega arith
fewest (a ∷ b ∷ bs) = let h = fewest bs in omega arith

most : (bytes : List ℕ) → length bytes ≤ 2 * length (units_in bytes) + 1
unfolding units_in
most [] = omega arith
most (a ∷ []) = omega arith
most (a ∷ b ∷ bs) = let h = most bs in omega arith

-- so many bytes are half as many whole code units
pub half_units : (bytes : List ℕ) (count : ℕ) → length bytes ≡ count → count / 2 ≡ length (units_in bytes)
half_units bytes count e = let a = fewest bytes in let b = most bytes in omega arith
