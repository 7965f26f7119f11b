-- The front of a list that was gone over.
use Rattle.std.proofs.Common.{◌≡◌, ℕ, zero, suc, ◌+◌, ◌<◌, List, [], ◌∷◌, ◌++◌, take, length, get_or, slice_get, Some, None, refl, sym, ap, ◌∙◌}
use Rattle.std.proofs.lemmas.List.{take_more, length_push}
use Rattle.std.proofs.lemmas.Option.{slice_get_within, get_or_from_slice_get}

module _ {X : Type 0} where
  -- one more element of it
  pub front-more : (old new all : List X) (x : X) → old ≡ take (length old) all → Some x ≡ slice_get all (length old) → new ≡ old ++ x ∷ [] → new ≡ take (length new) all
  front-more old new all x front at is =
      let lt : length old < length all = slice_get_within all (length old) x (sym at) in
      let read : get_or all (length old) x ≡ x = get_or_from_slice_get all (length old) x x (sym at) in
      let long : length new ≡ length old + 1 = ap length is ∙ length_push old x in
      is ∙ (ap (λ (ys : List X). ys ++ x ∷ []) front ∙ (ap (λ (z : X). take (length old) all ++ z ∷ []) (sym read) ∙ (sym (take_more all (length old) x lt) ∙ ap (λ n. take n all) (sym long))))

  take-past : (n : ℕ) (all : List X) → slice_get all n ≡ None → take n all ≡ all
  take-past zero [] e = refl
  take-past (suc n) [] e = refl
  take-past zero (x ∷ xs) e = absurd (cc)
  take-past (suc n) (x ∷ xs) e = ap (λ (ys : List X). x ∷ ys) (take-past n xs e)

  -- there is none
  pub front-all : (front all : List X) → front ≡ take (length front) all → None ≡ slice_get all (length front) → front ≡ all
  front-all front all is at = is ∙ take-past (length front) all (sym at)
