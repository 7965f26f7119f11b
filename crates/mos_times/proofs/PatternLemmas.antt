-- Tests of single code units, and the pattern that they make.
use Rattle.std.proofs.Common.{◌≡◌, ℕ, ◌≤◌, Bool, true, false, cond, ◌&&◌, eqb, [], ◌∷◌, ◌++◌, length, take, drop, codes, slice_index_or, refl, sym, ap, ◌∙◌, arith}
use Rattle.std.proofs.Math.Bool.{and_assoc}
use Rattle.std.proofs.lemmas.Bool.{eqb-true, eq-eqb}
use Rattle.mos_fields.specs.Characters.{Text}
use Rattle.mos_fields.specs.Forms.{is_digit, fits}
use Rattle.mos_fields.proofs.TimeLemmas.{fits_length}

same_tests : (a b : Bool) → (a ≡ true → b ≡ true) → (b ≡ true → a ≡ true) → a ≡ b
same_tests true true f g = refl
same_tests true false f g = sym (f refl)
same_tests false true f g = g refl
same_tests false false f g = refl

turned : (a b : ℕ) → eqb a b ≡ eqb b a
turned a b = same_tests (eqb a b) (eqb b a) (λ e. eq-eqb b a (sym (eqb-true a b e))) (λ e. eq-eqb a b (sym (eqb-true b a e)))

date_tests : (a b c d e f g h i j : Bool) → ((a && b) && (c && d) && e && (f && g) && h && (i && j)) ≡ (a && (b && (c && (d && (e && (f && (g && (h && (i && (j && true))))))))))
date_tests false b c d e f g h i j = refl
date_tests true false c d e f g h i j = refl
date_tests true true false d e f g h i j = refl
date_tests true true true false e f g h i j = refl
date_tests true true true true false f g h i j = refl
date_tests true true true true true false g h i j = refl
date_tests true true true true true true false h i j = refl
date_tests true true true true true true true false i j = refl
date_tests true true true true true true true true false j = refl
date_tests true true true true true true true true true false = refl
date_tests true true true true true true true true true true = refl

clock_tests : (a b c d e f g h i j : Bool) → (a && (b && c) && d && (e && f) && g && (h && i) && j) ≡ (a && (b && (c && (d && (e && (f && (g && (h && (i && (j && true))))))))))
clock_tests false b c d e f g h i j = refl
clock_tests true false c d e f g h i j = refl
clock_tests true true false d e f g h i j = refl
clock_tests true true true false e f g h i j = refl
clock_tests true true true true false f g h i j = refl
clock_tests true true true true true false g h i j = refl
clock_tests true true true true true true false h i j = refl
clock_tests true true true true true true true false i j = refl
clock_tests true true true true true true true true false j = refl
clock_tests true true true true true true true true true false = refl
clock_tests true true true true true true true true true true = refl

-- the tests of the first ten units are the pattern of a date
pub date_pattern : (x : Text) → length x ≡ 20
    → ((is_digit (slice_index_or x 0 0) && is_digit (slice_index_or x 1 0)) && (is_digit (slice_index_or x 2 0) && is_digit (slice_index_or x 3 0)) && eqb (slice_index_or x 4 0) 45
    && (is_digit (slice_index_or x 5 0) && is_digit (slice_index_or x 6 0)) && eqb (slice_index_or x 7 0) 45 && (is_digit (slice_index_or x 8 0) && is_digit (slice_index_or x 9 0)))
    ≡ fits (codes "0000-00-00") (take 10 x)
date_pattern (y1 ∷ y2 ∷ y3 ∷ y4 ∷ p1 ∷ m1 ∷ m2 ∷ p2 ∷ d1 ∷ d2 ∷ r) l = rw (turned p1 45, turned p2 45)
    (date_tests (is_digit y1) (is_digit y2) (is_digit y3) (is_digit y4) (eqb 45 p1) (is_digit m1) (is_digit m2) (eqb 45 p2) (is_digit d1) (is_digit d2))
date_pattern x l = absurd (omega arith)

-- and those of the last ten the pattern of a time of day in UTC
pub clock_pattern : (x : Text) → length x ≡ 20
    → (eqb (slice_index_or x 10 0) 84 && (is_digit (slice_index_or x 11 0) && is_digit (slice_index_or x 12 0)) && eqb (slice_index_or x 13 0) 58
    && (is_digit (slice_index_or x 14 0) && is_digit (slice_index_or x 15 0)) && eqb (slice_index_or x 16 0) 58 && (is_digit (slice_index_or x 17 0) && is_digit (slice_index_or x 18 0)) && eqb (slice_index_or x 19 0) 90)
    ≡ fits (codes "T00:00:00Z") (drop 10 x)
clock_pattern (y1 ∷ y2 ∷ y3 ∷ y4 ∷ p1 ∷ m1 ∷ m2 ∷ p2 ∷ d1 ∷ d2 ∷ t ∷ h1 ∷ h2 ∷ p3 ∷ n1 ∷ n2 ∷ p4 ∷ s1 ∷ s2 ∷ z ∷ []) l = rw (turned t 84, turned p3 58, turned p4 58, turned z 90)
    (clock_tests (eqb 84 t) (is_digit h1) (is_digit h2) (eqb 58 p3) (is_digit n1) (is_digit n2) (eqb 58 p4) (is_digit s1) (is_digit s2) (eqb 90 z))
clock_pattern x l = absurd (omega arith)

-- a pattern in two parts
pub fits_parts : (p q x : Text) → length p ≤ length x → (fits p (take (length p) x) && fits q (drop (length p) x)) ≡ fits (p ++ q) x
fits_parts [] q x h = refl
fits_parts (c ∷ p) q [] h = absurd (omega arith)
fits_parts (c ∷ p) q (d ∷ x) h = and_assoc (cond (eqb c 48) (is_digit d) (eqb c d)) (fits p (take (length p) x)) (fits q (drop (length p) x))
    ∙ ap (λ b. cond (eqb c 48) (is_digit d) (eqb c d) && b) (fits_parts p q x (omega arith))

pub both_patterns : (x : Text) → length x ≡ 20 → (fits (codes "0000-00-00") (take 10 x) && fits (codes "T00:00:00Z") (drop 10 x)) ≡ fits (codes "0000-00-00T00:00:00Z") x
both_patterns x l = fits_parts (codes "0000-00-00") (codes "T00:00:00Z") x (omega arith)

-- no text of another length fits
pub not_long : (x : Text) → (length x ≡ 20 → ⊥) → fits (codes "0000-00-00T00:00:00Z") x ≡ false
not_long x l = go (fits (codes "0000-00-00T00:00:00Z") x) refl
  where
    go : (b : Bool) → fits (codes "0000-00-00T00:00:00Z") x ≡ b → b ≡ false
    go true e = absurd (l (fits_length (codes "0000-00-00T00:00:00Z") x e))
    go false e = refl
