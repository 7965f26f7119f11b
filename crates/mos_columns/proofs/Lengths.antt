-- Names by their lengths.
use Rattle.std.proofs.Common.{◌≡◌, suc, Bool, true, false, [], ◌∷◌, length, refl, sym, ap, ◌∙◌}
use Rattle.std.specs.Prelude.{nat_eq, ◌&&◌}
use Rattle.std.proofs.lemmas.Bool.{ne_eqb}
use Rattle.mos_fields.specs.Characters.{Text}
use Rattle.mos_fields.specs.Fields.{same}

-- names of another length are other names
pub same_long : (n u : Text) → (length n ≡ length u → ⊥) → same n u ≡ false
same_long [] [] e = elim (e refl) [ ]
same_long [] (x ∷ u) e = refl
same_long (x ∷ n) [] e = refl
same_long (x ∷ n) (y ∷ u) e = rw (same_long n u (λ (h : length n ≡ length u). e (ap suc h))) (go (nat_eq x y))
  where
    go : (b : Bool) → (b && false) ≡ false
    go true = refl
    go false = refl

pub long_is : (n u : Text) → (length n ≡ length u → ⊥) → nat_eq (length n) (length u) ≡ same n u
long_is n u e = ne_eqb (length n) (length u) e ∙ sym (same_long n u e)
