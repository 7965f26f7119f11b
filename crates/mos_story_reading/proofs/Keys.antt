-- Keys, each of which is not among those before it, are distinct.
use Rattle.std.proofs.Common.{eq-eqb, ◌≡◌, ◌≢◌, ℕ, ◌<◌, Bool, true, false, true≢false, cond, List, [], ◌∷◌, ◌++◌, length, All, AllPairs, refl, sym, ap, subst, ◌∙◌, arith}
use Rattle.std.proofs.lemmas.List.Elements.{All-nil, All-cons}
use Rattle.std.proofs.lemmas.List.Kept.{AllPairs-cons}
use Rattle.mos_fields.specs.Characters.{Text}
use Rattle.mos_fields.specs.Fields.{same}
use Rattle.mos_fields.specs.Forms.{among}
use Rattle.mos_values.specs.Distinct.{AreDistinct}

-- each is fresh behind those before it
abbrev pub FreshKeys : List Text → List Text → Type 0
FreshKeys earlier [] = Unit {0}
FreshKeys earlier (x ∷ xs) = (among x earlier ≡ false) × FreshKeys (earlier ++ x ∷ []) xs

same_self : (n : Text) → same n n ≡ true
same_self [] = refl
same_self (c ∷ cs) = rw (eq-eqb c c refl) (same_self cs)

among_kept : (k : Text) (xs ys : List Text) → among k xs ≡ true → among k (xs ++ ys) ≡ true
among_kept k [] ys h = absurd cc
among_kept k (x ∷ xs) ys h = go (same k x) h (λ e. among_kept k xs ys e)
  where
    go : (b : Bool) → cond b true (among k xs) ≡ true → (among k xs ≡ true → among k (xs ++ ys) ≡ true) → cond b true (among k (xs ++ ys)) ≡ true
    go true h ih = refl
    go false h ih = ih h

among_last : (k : Text) (xs : List Text) → among k (xs ++ k ∷ []) ≡ true
among_last k [] = rw (same_self k) refl
among_last k (x ∷ xs) = go (same k x) (among_last k xs)
  where
    go : (b : Bool) → among k (xs ++ k ∷ []) ≡ true → cond b true (among k (xs ++ k ∷ [])) ≡ true
    go true ih = refl
    go false ih = ih

-- none of them is one of those before
apart : (k : Text) (earlier xs : List Text) → among k earlier ≡ true → FreshKeys earlier xs → All (λ y. k ≢ y) xs
apart k earlier [] h f = All-nil (λ y. k ≢ y)
apart k earlier (x ∷ xs) h f =
    All-cons (λ y. k ≢ y) x xs (λ e. true≢false (sym h ∙ ap (λ (z : Text). among z earlier) e ∙ f.0)) (apart k (earlier ++ x ∷ []) xs (among_kept k earlier (x ∷ []) h) f.1)

none_distinct : AreDistinct []
none_distinct i j d lt within = absurd (omega (arith, lt, within))

pub fresh_distinct : (earlier xs : List Text) → FreshKeys earlier xs → AreDistinct xs
fresh_distinct earlier [] f = none_distinct
fresh_distinct earlier (x ∷ xs) f = AllPairs-cons (λ y z. y ≢ z) x xs (apart x (earlier ++ x ∷ []) xs (among_last x earlier) f.1) (fresh_distinct (earlier ++ x ∷ []) xs f.1)
