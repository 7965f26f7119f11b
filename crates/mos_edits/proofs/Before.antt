-- The order of identifiers, character by character.
use Rattle.std.proofs.Common.{◌≡◌, ℕ, ◌<◌, ◌⊎◌, inl, inr, Bool, true, false, [], ◌∷◌, refl, sym, ◌∙◌, subst, arith}
use Rattle.std.proofs.lemmas.Bool.Decides.{nat_tests}
use Rattle.std.proofs.lemmas.Bool.{cases_order}
use Rattle.mos_edits.specs.Texts.{Text, same_id}
use Rattle.mos_edits.proofs.Identifiers.{same-true, same-self}
use Rattle.mos_edits.specs.Rows.{is_before}

-- what two characters say of the order
pub first_before : (x y : ℕ) (xs ys : Text) → x < y → is_before (x ∷ xs) (y ∷ ys) ≡ true
first_before x y xs ys h = grind (arith, nat_tests)

pub first_behind : (x y : ℕ) (xs ys : Text) → y < x → is_before (x ∷ xs) (y ∷ ys) ≡ false
first_behind x y xs ys h = grind (arith, nat_tests)

pub first_same : (x : ℕ) (xs ys : Text) → is_before (x ∷ xs) (x ∷ ys) ≡ is_before xs ys
first_same x xs ys = grind (arith, nat_tests)

-- no identifier stands before itself
pub before-self : (r : Text) → is_before r r ≡ false
before-self [] = refl
before-self (x ∷ xs) = first_same x xs xs ∙ before-self xs

pub before-trans : (x y z : Text) → is_before x y ≡ true → is_before y z ≡ true → is_before x z ≡ true
before-trans [] [] z h k = absurd (let n : false ≡ true = h in cc)
before-trans [] (y ∷ ys) [] h k = absurd (let n : false ≡ true = k in cc)
before-trans [] (y ∷ ys) (z ∷ zs) h k = refl
before-trans (x ∷ xs) [] z h k = absurd (let n : false ≡ true = h in cc)
before-trans (x ∷ xs) (y ∷ ys) [] h k = absurd (let n : false ≡ true = k in cc)
before-trans (x ∷ xs) (y ∷ ys) (z ∷ zs) h k = by (cases_order x y) (cases_order y z) (before-trans xs ys zs)
  where
    by : ((x ≡ y) ⊎ ((x < y) ⊎ (y < x))) → ((y ≡ z) ⊎ ((y < z) ⊎ (z < y))) → (is_before xs ys ≡ true → is_before ys zs ≡ true → is_before xs zs ≡ true) → is_before (x ∷ xs) (z ∷ zs) ≡ true
    by (inl e) (inl f) i = grind (arith, nat_tests)
    by (inl e) (inr (inl f)) i = first_before x z xs zs (omega arith)
    by (inr (inl e)) (inl f) i = first_before x z xs zs (omega arith)
    by (inr (inl e)) (inr (inl f)) i = first_before x z xs zs (omega arith)
    by (inr (inr e)) f i = absurd (let n = first_behind x y xs ys e in cc)
    by e (inr (inr f)) i = absurd (let n = first_behind y z ys zs f in cc)

-- of two identifiers that aren't one, one stands before the other
pub before-other : (x y : Text) → is_before x y ≡ false → is_before y x ≡ false → x ≡ y
before-other [] [] h k = refl
before-other [] (y ∷ ys) h k = absurd (let n : true ≡ false = h in cc)
before-other (x ∷ xs) [] h k = absurd (let n : true ≡ false = k in cc)
before-other (x ∷ xs) (y ∷ ys) h k = by (cases_order x y) (before-other xs ys)
  where
    by : ((x ≡ y) ⊎ ((x < y) ⊎ (y < x))) → (is_before xs ys ≡ false → is_before ys xs ≡ false → xs ≡ ys) → x ∷ xs ≡ y ∷ ys
    by (inl e) i =
        let a : is_before xs ys ≡ false = sym (first_same x xs ys) ∙ subst (λ (z : ℕ). is_before (x ∷ xs) (z ∷ ys) ≡ false) (sym e) h in
        let b : is_before ys xs ≡ false = sym (first_same x ys xs) ∙ subst (λ (z : ℕ). is_before (z ∷ ys) (x ∷ xs) ≡ false) (sym e) k in
        let t = i a b in cc
    by (inr (inl e)) i = absurd (let n = first_before x y xs ys e in cc)
    by (inr (inr e)) i = absurd (let n = first_before y x ys xs e in cc)

-- one that stands before another isn't that one
pub before-differs : (x y : Text) → is_before x y ≡ true → same_id y x ≡ false
before-differs x y h = by (same_id y x) refl
  where
    by : (b : Bool) → same_id y x ≡ b → b ≡ false
    by false e = refl
    by true e = let s = same-true y x e in let n = before-self x in absurd (let m : is_before x x ≡ true = subst (λ (z : Text). is_before x z ≡ true) s h in cc)

-- a identifier that is neither before another nor the same stands behind it
pub behind : (r x : Text) → same_id r x ≡ false → is_before x r ≡ false → is_before r x ≡ true
behind r x s h = by (is_before r x) refl
  where
    by : (b : Bool) → is_before r x ≡ b → b ≡ true
    by true e = refl
    by false e = let n = before-other r x e h in absurd (let t = same-self r in let u : same_id r x ≡ true = subst (λ (z : Text). same_id r z ≡ true) n t in cc)
