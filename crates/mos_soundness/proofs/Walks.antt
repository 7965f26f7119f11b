-- Going over a list to find whether something holds of each element.
use Rattle.std.proofs.Common.{◌≡◌, ℕ, ◌+◌, ◌<◌, ◌≤◌, Bool, true, false, List, ◌∷◌, length, get_or, drop, refl, sym, ◌∙◌, subst, Decides, ◌↔◌}
use Rattle.std.specs.List.{AllByRecursion}
use Rattle.std.proofs.lemmas.Bool.{false≢true}
use Rattle.std.proofs.lemmas.List.{drop_more, drop_all}

module _ {X : Type 0} (P : X → Type 0) where
  -- it holds of all, where it holds of each from a place on
  abbrev pub GoesOn : ℕ → List X → Type 0
  GoesOn i xs = AllByRecursion P (drop i xs) ↔ AllByRecursion P xs

  pub walk_starts : (xs : List X) → GoesOn 0 xs
  walk_starts xs = (λ h. h, λ h. h)

  head_of : (xs : List X) (i : ℕ) (x : X) → i < length xs → x ≡ get_or xs i x → drop i xs ≡ x ∷ drop (i + 1) xs
  head_of xs i x lt is = let Q : X → Type 0 = λ y. drop i xs ≡ y ∷ drop (i + 1) xs in subst Q (sym is) (drop_more xs i x lt)

  pub walk_goes_on : (xs : List X) (i : ℕ) (x : X) (b : Bool) → i < length xs → x ≡ get_or xs i x → b ≡ true → Decides b (P x) → GoesOn i xs → GoesOn (i + 1) xs
  walk_goes_on xs i x b lt is e d h =
      let Q : List X → Type 0 = λ ys. AllByRecursion P ys in
      let at : drop i xs ≡ x ∷ drop (i + 1) xs = head_of xs i x lt is in
      (λ r. h.0 (subst Q (sym at) (d.0 e, r)), λ a. let f : Q (x ∷ drop (i + 1) xs) = subst Q at (h.1 a) in f.1)

  pub walk_stops : (xs : List X) (i : ℕ) (x : X) (b : Bool) → i < length xs → x ≡ get_or xs i x → b ≡ false → Decides b (P x) → GoesOn i xs → Decides false (AllByRecursion P xs)
  walk_stops xs i x b lt is e d h =
      let Q : List X → Type 0 = λ ys. AllByRecursion P ys in
      let at : drop i xs ≡ x ∷ drop (i + 1) xs = head_of xs i x lt is in
      (λ t. absurd (false≢true t), λ a. let f : Q (x ∷ drop (i + 1) xs) = subst Q at (h.1 a) in absurd (false≢true (sym e ∙ d.1 f.0)))

  pub walk_ends : (xs : List X) (i : ℕ) → length xs ≤ i → GoesOn i xs → Decides true (AllByRecursion P xs)
  walk_ends xs i le h =
      let Q : List X → Type 0 = λ ys. AllByRecursion P ys in
      (λ t. h.0 (subst Q (sym (drop_all i xs le)) tt), λ a. refl)
