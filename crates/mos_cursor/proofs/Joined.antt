-- Parts that are joined one after another.
use Rattle.std.proofs.Common.{◌≡◌, List, [], ◌∷◌, ◌++◌, refl, ap, ◌∙◌, append_assoc}
use Rattle.mos_tables.specs.Events.{Event}
use Rattle.mos_values.specs.Parts.{joined}

pub joined_append : (xs ys : List (List Event)) → joined xs ++ joined ys ≡ joined (xs ++ ys)
joined_append [] ys = refl
joined_append (x ∷ xs) ys = append_assoc x (joined xs) (joined ys) ∙ ap (λ (z : List Event). x ++ z) (joined_append xs ys)
