-- A text in UCS-2, one more character.
use Rattle.std.proofs.Common.{◌≡◌, ℕ, ◌<◌, ◌+◌, List, [], ◌∷◌, ◌++◌, length, take, get_or, sym, ap, ◌∙◌}
use Rattle.std.proofs.lemmas.List.{append_assoc, append-nil, take_more}
use Rattle.std.specs.List.{flat_map}
use Rattle.std.proofs.lemmas.Grind.{flat_map-append}
use Rattle.device_answers.specs.Taking.{wide}

abbrev unit_of : ℕ → List ℕ
unit_of c = 0 ∷ c ∷ []

pub wide_start : (o : List ℕ) → o ≡ o ++ wide []
wide_start o = sym (append-nil o)

pub wide_step : (xs : List ℕ) (i : ℕ) (o a b : List ℕ) → i < length xs → a ≡ o ++ wide (take i xs) → b ≡ a ++ 0 ∷ get_or xs i 0 ∷ [] → b ≡ o ++ wide (take (i + 1) xs)
wide_step xs i o a b lt e f =
    let s : wide (take (i + 1) xs) ≡ wide (take i xs) ++ unit_of (get_or xs i 0) = ap (flat_map unit_of) (take_more xs i 0 lt) ∙ flat_map-append unit_of (take i xs) (get_or xs i 0 ∷ []) in
    f ∙ (ap (λ z. z ++ unit_of (get_or xs i 0)) e ∙ (append_assoc o (wide (take i xs)) (unit_of (get_or xs i 0)) ∙ ap (λ z. o ++ z) (sym s)))
