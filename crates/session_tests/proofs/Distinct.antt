-- No two of the three devices have the same name.
use Rattle.std.specs.Prelude.{◌≢◌, ℕ, ◌<◌, ◌≤◌, List, [], ◌∷◌, AllPairs, length, get_or}
use Rattle.std.proofs.Common.{ap, arith}
use Rattle.std.proofs.lemmas.List.Elements.{All-nil, All-cons}
use Rattle.std.proofs.lemmas.List.Kept.{AllPairs-cons}
use Rattle.session_tests.specs.Three.{three}

abbrev differ : List ℕ → List ℕ → Type 0
differ x y = x ≢ y

apart : (x y : ℕ) → x ≢ y → differ (x ∷ []) (y ∷ [])
apart x y h same = h (ap (λ (t : List ℕ). get_or t 0 0) same)

none : AllPairs differ []
none i j d i<j j<n = omega arith

one : AllPairs differ ((99 ∷ []) ∷ [])
one = AllPairs-cons differ (99 ∷ []) [] (All-nil (differ (99 ∷ []))) none

two : AllPairs differ ((98 ∷ []) ∷ (99 ∷ []) ∷ [])
two = AllPairs-cons differ (98 ∷ []) ((99 ∷ []) ∷ [])
    (All-cons (differ (98 ∷ [])) (99 ∷ []) [] (apart 98 99 (λ p. omega arith)) (All-nil (differ (98 ∷ [])))) one

pub three_are_distinct : (0 < length three) × (length three ≤ 64) × AllPairs (λ (x : List ℕ) (y : List ℕ). x ≢ y) three
three_are_distinct = (
  omega arith,
  omega arith,
  AllPairs-cons differ (97 ∷ []) ((98 ∷ []) ∷ (99 ∷ []) ∷ [])
      (All-cons (differ (97 ∷ [])) (98 ∷ []) ((99 ∷ []) ∷ []) (apart 97 98 (λ p. omega arith))
      (All-cons (differ (97 ∷ [])) (99 ∷ []) [] (apart 97 99 (λ p. omega arith)) (All-nil (differ (97 ∷ []))))) two,
)
