-- Code units as bytes, and back.
use Rattle.std.proofs.Common.{◌≡◌, ℕ, ◌+◌, ◌*◌, ◌/◌, ◌%◌, ◌<◌, ◌≤◌, List, [], ◌∷◌, length, refl, ap, ◌∙◌, arith}
use Rattle.mos_fields.specs.Characters.{bytes_of, units_in}

pair_back : (u : ℕ) → u / 256 * 256 + u % 256 ≡ u
pair_back u = omega arith

pub units_back : (us : List ℕ) → units_in (bytes_of us) ≡ us
unfolding units_in
units_back [] = refl
units_back (u ∷ us) = ap (λ k. k ∷ units_in (bytes_of us)) (pair_back u) ∙ ap (λ z. u ∷ z) (units_back us)

pub bytes_length : (us : List ℕ) → length (bytes_of us) ≡ length us * 2
bytes_length [] = refl
bytes_length (u ∷ us) = let e : length (bytes_of us) ≡ length us * 2 = bytes_length us in omega arith

pub long_units : (bytes us : List ℕ) → bytes ≡ bytes_of us → 16777216 < length bytes → 8388608 < length us
long_units bytes us e h = let k : length bytes ≡ length us * 2 = ap length e ∙ bytes_length us in omega arith

pub short_units : (bytes us : List ℕ) → bytes ≡ bytes_of us → length bytes ≤ 16777216 → length us ≤ 8388608
short_units bytes us e h = let k : length bytes ≡ length us * 2 = ap length e ∙ bytes_length us in omega arith
