-- Equal names.
use Rattle.std.proofs.Common.{◌≡◌, ℕ, Bool, List, [], ◌∷◌, refl, ap}
use Rattle.std.specs.Prelude.{◌&&◌}
use lib.Pointwise.{pointwise}
use lib.Dec.{eqb as equal}
use Rattle.mos_fields.specs.Fields.{same}

pub pointwise_same : (a b : List ℕ) → pointwise equal a b ≡ same a b
pointwise_same [] [] = refl
pointwise_same [] (y ∷ ys) = refl
pointwise_same (x ∷ xs) [] = refl
pointwise_same (x ∷ xs) (y ∷ ys) = ap (λ (r : Bool). equal x y && r) (pointwise_same xs ys)
