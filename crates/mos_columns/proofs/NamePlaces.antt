-- Names by what stands at their places.
use Rattle.std.proofs.Common.{◌≡◌, ℕ, suc, ◌+◌, ◌<◌, ◌≤◌, Bool, true, false, not, [], ◌∷◌, length, get_or, refl, sym, ap, ◌∙◌, subst, arith, eq-eqb}
use Rattle.std.specs.Prelude.{◌==◌, ◌||◌, nat_eq, nat_lt}
use Rattle.std.proofs.lemmas.Bool.{and_parts, and_from, eqb-true, ltb-true, ltb-false}
use Rattle.mos_fields.specs.Characters.{Text}
use Rattle.mos_fields.specs.Fields.{same}

same_is : (x y : Text) → same x y ≡ true → x ≡ y
same_is [] [] e = refl
same_is [] (b ∷ y) e = absurd cc
same_is (a ∷ x) [] e = absurd cc
same_is (a ∷ x) (b ∷ y) e = let p = and_parts (a == b) (same x y) e in
    ap (λ z. z ∷ x) (eqb-true a b p.0) ∙ ap (λ z. b ∷ z) (same_is x y p.1)

-- names with the same at each place are the same
pub places_same : (x y : Text) → length x ≡ length y → ((k : ℕ) → k < length x → get_or x k 0 ≡ get_or y k 0) → same x y ≡ true
places_same [] [] e h = refl
places_same [] (b ∷ y) e h = absurd (omega (arith, e))
places_same (a ∷ x) [] e h = absurd (omega (arith, e))
places_same (a ∷ x) (b ∷ y) e h = and_from (a == b) (same x y) (eq-eqb a b (h 0 (omega arith))) (places_same x y (omega (arith, e)) (λ k l. h (suc k) (omega (arith, l))))

-- and names with another unit at some place are others
pub differs_at : (x y : Text) (k : ℕ) → (get_or x k 0 ≡ get_or y k 0 → ⊥) → same x y ≡ false
differs_at x y k d = go (same x y) refl
  where
    go : (b : Bool) → same x y ≡ b → same x y ≡ false
    go false e = e
    go true e = absurd (d (ap (λ z. get_or z k 0) (same_is x y e)))

-- what was compared up to `n`, and from `last` on, is all
pub all_compared : (x y : Text) (n last m : ℕ) (b : Bool) → length x ≡ length y → length x ≤ last + m → last ≤ n
    → ((k : ℕ) → k < n → get_or x k 0 ≡ get_or y k 0)
    → (b ≡ true → (k : ℕ) → last ≤ k → k < last + m → get_or x k 0 ≡ get_or y k 0)
    → (b ≡ false → same x y ≡ false) → b ≡ same x y
all_compared x y n last m false e f g before behind d = sym (d refl)
all_compared x y n last m true e f g before behind d = sym (places_same x y e (λ k l. here k l (nat_lt k n) refl))
  where
    here : (k : ℕ) → k < length x → (t : Bool) → nat_lt k n ≡ t → get_or x k 0 ≡ get_or y k 0
    here k l true h = before k (ltb-true k n h)
    here k l false h = behind refl k (let j = ltb-false k n h in omega (arith, j, g)) (omega (arith, l, f))

-- what a walk over the places knows in front of `k`
abbrev pub Compared : Text → Text → ℕ → ℕ → Bool → Type 0
Compared x y from k differ = (differ ≡ false → (j : ℕ) → from ≤ j → j < k → get_or x j 0 ≡ get_or y j 0) × (differ ≡ true → same x y ≡ false)

pub compared_step : (x y : Text) (from k v : ℕ) (differ : Bool) → v ≡ get_or x k 0 → Compared x y from k differ → Compared x y from (k + 1) (differ || not (nat_eq v (get_or y k 0)))
compared_step x y from k v differ e h = go differ (nat_eq v (get_or y k 0)) refl h
  where
    at : (j : ℕ) → (j < k → get_or x j 0 ≡ get_or y j 0) → j < k + 1 → get_or x k 0 ≡ get_or y k 0 → (t : Bool) → nat_lt j k ≡ t → get_or x j 0 ≡ get_or y j 0
    at j before m here true g = before (ltb-true j k g)
    at j before m here false g = let i : k ≡ j = (let l = ltb-false j k g in omega (arith, l, m)) in subst (λ z. get_or x z 0 ≡ get_or y z 0) i here

    go : (d b : Bool) → nat_eq v (get_or y k 0) ≡ b → Compared x y from k d → Compared x y from (k + 1) (d || not b)
    go true b f h = (λ q. absurd (cc), λ q. h.1 refl)
    go false true f h = (λ q j l m. at j (λ n. h.0 refl j l n) m (sym e ∙ eqb-true v (get_or y k 0) f) (nat_lt j k) refl, λ q. absurd (cc))
    go false false f h = (λ q. absurd (cc), λ q. differs_at x y k (λ i. let t : false ≡ true = sym f ∙ eq-eqb v (get_or y k 0) (e ∙ i) in absurd (cc)))
