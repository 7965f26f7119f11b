-- Characters of ASCII as bytes.
use Rattle.std.proofs.Common.{◌≡◌, ℕ, ◌+◌, ◌/◌, ◌%◌, ◌^◌, ◌<◌, List, [], ◌∷◌, ◌++◌, refl, ap, ◌∙◌, arith}
use Rattle.mos_fields.specs.Characters.{unit_bytes}
use Rattle.mos_writer.specs.Encoded.{in_bytes}

-- ASCII with the high bytes
abbrev pub wide : List ℕ → List ℕ
wide [] = []
wide (u ∷ us) = 0 ∷ u ∷ wide us

-- each one below 256
abbrev pub AreSmall : List ℕ → Type 0
AreSmall [] = Unit {0}
AreSmall (u ∷ us) = (u < 2 ^ 8) × AreSmall us

small_unit : (u : ℕ) → u < 2 ^ 8 → 0 ∷ u ∷ [] ≡ unit_bytes u
small_unit u h =
    let high : 0 ≡ u / 256 = omega (arith, h) in
    let low : u ≡ u % 256 = omega (arith, h) in
    ap (λ x. x ∷ u ∷ []) high ∙ ap (λ x. (u / 256) ∷ x ∷ []) low

wide_is : (us : List ℕ) → AreSmall us → wide us ≡ in_bytes us
unfolding in_bytes
wide_is [] s = refl
wide_is (u ∷ us) s = ap (λ ys. 0 ∷ u ∷ ys) (wide_is us s.1) ∙ ap (λ ys. ys ++ in_bytes us) (small_unit u s.0)

-- characters whose bytes were written out
pub written_wide : (w a us : List ℕ) → AreSmall us → w ≡ a ++ wide us → w ≡ a ++ in_bytes us
written_wide w a us s h = h ∙ ap (λ ys. a ++ ys) (wide_is us s)

pub digit_small : (n : ℕ) → 48 + n % 10 < 2 ^ 8
digit_small n = omega (arith)
