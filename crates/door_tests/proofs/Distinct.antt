-- The two devices don't have the same name.
use Rattle.std.specs.Prelude.{◌≢◌, ℕ, ◌<◌, ◌≤◌, List, [], ◌∷◌, AllPairs, length, get_or}
use Rattle.std.proofs.Common.{ap, arith}
use Rattle.std.proofs.lemmas.List.Elements.{All-nil, All-cons}
use Rattle.std.proofs.lemmas.List.Kept.{AllPairs-cons}
use Rattle.door_tests.specs.Two.{two}

abbrev differ : List ℕ → List ℕ → Type 0
differ x y = x ≢ y

apart : (x y : ℕ) → x ≢ y → differ (x ∷ []) (y ∷ [])
apart x y h same = h (ap (λ (t : List ℕ). get_or t 0 0) same)

none : AllPairs differ []
none i j d i<j j<n = omega arith

one : AllPairs differ ((98 ∷ []) ∷ [])
one = AllPairs-cons differ (98 ∷ []) [] (All-nil (differ (98 ∷ []))) none

pub two_are_distinct : (0 < length two) × (length two ≤ 64) × AllPairs (λ (x : List ℕ) (y : List ℕ). x ≢ y) two
two_are_distinct = (
  omega arith,
  omega arith,
  AllPairs-cons differ (97 ∷ []) ((98 ∷ []) ∷ [])
      (All-cons (differ (97 ∷ [])) (98 ∷ []) [] (apart 97 98 (λ p. omega arith)) (All-nil (differ (97 ∷ [])))) one,
)
