-- An array of nine slots is its elements.
use Rattle.std.proofs.Common.{◌≡◌, ℕ, ◌+◌, List, [], ◌∷◌, length, refl, ap, ◌∙◌, arith}
use Rattle.std.specs.Prelude.{get_or}
use Rattle.mos_cursor.specs.declared.slot.Slot.{Slot}

-- a first element, and so many behind it
record Begins (xs : List Slot) (k : ℕ) : Type 0 where
  head : Slot
  tail : List Slot
  is : xs ≡ head ∷ tail
  size : length tail ≡ k

begins : (xs : List Slot) (k : ℕ) → length xs ≡ k + 1 → Begins xs k
begins [] k h = absurd (omega (arith, h))
begins (x ∷ xs) k h = record { head = x; tail = xs; is = refl; size = omega (arith, h) }

ends : (xs : List Slot) → length xs ≡ 0 → xs ≡ []
ends [] h = refl
ends (x ∷ xs) h = absurd (omega (arith, h))

pub nine_slots : (xs : List Slot) (a b c d e f g h i : Slot) → length xs ≡ 9 → a ≡ get_or xs 0 a → b ≡ get_or xs 1 b → c ≡ get_or xs 2 c → d ≡ get_or xs 3 d → e ≡ get_or xs 4 e → f ≡ get_or xs 5 f
    → g ≡ get_or xs 6 g → h ≡ get_or xs 7 h → i ≡ get_or xs 8 i → xs ≡ a ∷ b ∷ c ∷ d ∷ e ∷ f ∷ g ∷ h ∷ i ∷ []
nine_slots xs a b c d e f g h i n ea eb ec ed ee ef eg eh ei =
    let w1 = begins xs 8 n in
    let w2 = begins w1.tail 7 w1.size in
    let w3 = begins w2.tail 6 w2.size in
    let w4 = begins w3.tail 5 w3.size in
    let w5 = begins w4.tail 4 w4.size in
    let w6 = begins w5.tail 3 w5.size in
    let w7 = begins w6.tail 2 w6.size in
    let w8 = begins w7.tail 1 w7.size in
    let w9 = begins w8.tail 0 w8.size in
    let all : xs ≡ w1.head ∷ w2.head ∷ w3.head ∷ w4.head ∷ w5.head ∷ w6.head ∷ w7.head ∷ w8.head ∷ w9.head ∷ []
    = w1.is ∙ ap (λ (z : List Slot). w1.head ∷ z) (w2.is ∙ ap (λ (z : List Slot). w2.head ∷ z) (w3.is ∙ ap (λ (z : List Slot). w3.head ∷ z) (w4.is ∙ ap (λ (z : List Slot). w4.head ∷ z) (w5.is
    ∙ ap (λ (z : List Slot). w5.head ∷ z) (w6.is ∙ ap (λ (z : List Slot). w6.head ∷ z) (w7.is ∙ ap (λ (z : List Slot). w7.head ∷ z) (w8.is ∙ ap (λ (z : List Slot). w8.head ∷ z) (w9.is
    ∙ ap (λ (z : List Slot). w9.head ∷ z) (ends w9.tail w9.size))))))))) in
    let ka : a ≡ w1.head = ea ∙ ap (λ (z : List Slot). get_or z 0 a) all in
    let kb : b ≡ w2.head = eb ∙ ap (λ (z : List Slot). get_or z 1 b) all in
    let kc : c ≡ w3.head = ec ∙ ap (λ (z : List Slot). get_or z 2 c) all in
    let kd : d ≡ w4.head = ed ∙ ap (λ (z : List Slot). get_or z 3 d) all in
    let ke : e ≡ w5.head = ee ∙ ap (λ (z : List Slot). get_or z 4 e) all in
    let kf : f ≡ w6.head = ef ∙ ap (λ (z : List Slot). get_or z 5 f) all in
    let kg : g ≡ w7.head = eg ∙ ap (λ (z : List Slot). get_or z 6 g) all in
    let kh : h ≡ w8.head = eh ∙ ap (λ (z : List Slot). get_or z 7 h) all in
    let ki : i ≡ w9.head = ei ∙ ap (λ (z : List Slot). get_or z 8 i) all in
    rw (ka, kb, kc, kd, ke, kf, kg, kh, ki) all
