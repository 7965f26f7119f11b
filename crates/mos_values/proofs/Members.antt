-- Whether an ID is among those of a list.
use Rattle.std.proofs.Common.{◌≡◌, ℕ, ◌+◌, ◌<◌, ◌≤◌, Bool, true, false, List, [], ◌∷◌, ◌++◌, length, map, take, get_or, refl, sym, ap, subst, ◌∙◌, ⊎_elim, arith, Decides}
use Rattle.std.proofs.lemmas.List.Quantifiers.{all_pairs_push}
use Rattle.mos_values.specs.Distinct.{AreDistinct}
use Rattle.std.specs.List.{Contains}
use Rattle.std.proofs.lemmas.List.{take_more, take_all, map-append, get_or-map, length-map}
use Rattle.std.proofs.lemmas.List.Elements.{Contains-push_cases, Contains-get_or}
use Rattle.std.proofs.lemmas.Bool.{false≢true}
use Rattle.mos_fields.specs.Characters.{Text}

-- none among the first so many, and not the next one either
pub none_more : {X : Type 0} (f : X → Text) (xs : List X) (i : ℕ) (a : X) (x : Text) → i < length xs → a ≡ get_or xs i a
    → (Contains (map f (take i xs)) x → ⊥) → (f a ≡ x → ⊥) → Contains (map f (take (i + 1) xs)) x → ⊥
none_more f xs i a x lt is none here c =
    let e : map f (take (i + 1) xs) ≡ map f (take i xs) ++ f a ∷ [] = ap (map f) (take_more xs i a lt) ∙ rw (← is) (map-append f (take i xs) (a ∷ [])) in
    ⊎_elim none here (Contains-push_cases (map f (take i xs)) (f a) x (subst (λ (ys : List Text). Contains ys x) e c))

pub none_at_first : (x : Text) → Contains [] x → ⊥
none_at_first x c = omega (arith, c.1)

pub none_at_last : {X : Type 0} (f : X → Text) (xs : List X) (i : ℕ) (x : Text) → length xs ≤ i → (Contains (map f (take i xs)) x → ⊥) → Contains (map f xs) x → ⊥
none_at_last {X = X} f xs i x le none = subst (λ (ys : List X). Contains (map f ys) x → ⊥) (take_all i xs le) none

pub one_found : {X : Type 0} (f : X → Text) (xs : List X) (i : ℕ) (a : X) (x : Text) → i < length xs → a ≡ get_or xs i a → f a ≡ x → Contains (map f xs) x
one_found f xs i a x lt is here =
    let e : get_or (map f xs) i x ≡ x = get_or-map f xs i a x lt ∙ ap f (sym is) ∙ here in
    let n : length (map f xs) ≡ length xs = simp length-map in
    subst (λ (y : Text). Contains (map f xs) y) e (Contains-get_or (map f xs) i x (omega arith))

pub not_among : {X : Type 0} (f : X → Text) (xs : List X) (i : ℕ) (x : Text) → length xs ≤ i → (Contains (map f (take i xs)) x → ⊥) → Decides false (Contains (map f xs) x)
not_among f xs i x le none = (λ t. absurd (false≢true t), λ c. absurd (none_at_last f xs i x le none c))

pub is_among : {X : Type 0} (f : X → Text) (xs : List X) (i : ℕ) (a : X) (x : Text) → i < length xs → a ≡ get_or xs i a → f a ≡ x → Decides true (Contains (map f xs) x)
is_among f xs i a x lt is here = (λ t. one_found f xs i a x lt is here, λ c. refl)

-- an answer that isn't, for what isn't
pub differs : (b : Bool) (P : Type 0) → b ≡ false → Decides b P → P → ⊥
differs b P isnt d p = false≢true (sym isnt ∙ d.1 p)

pub is_so : (b : Bool) (P : Type 0) → b ≡ true → Decides b P → P
is_so b P is d = d.0 is

-- one more, whose ID isn't among them
pub distinct_push : {X : Type 0} (f : X → Text) (xs ys : List X) (x : X) → AreDistinct (map f xs) → (Contains (map f xs) (f x) → ⊥) → ys ≡ xs ++ x ∷ [] → AreDistinct (map f ys)
distinct_push {X = X} f xs ys x apart none is =
    let more : AreDistinct (map f xs ++ f x ∷ []) = all_pairs_push (λ a b. a ≡ b → ⊥) (map f xs) (f x) apart (λ k d lt e. none (subst (λ (y : Text). Contains (map f xs) y) e (Contains-get_or (map f xs) k d lt))) in
    rw (is, map-append f xs (x ∷ [])) more
