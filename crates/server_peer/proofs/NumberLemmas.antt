-- Numbers of entries whose scripts are due.
use Rattle.std.proofs.Common.{◌≡◌, ℕ, ◌<◌, Bool, true, false, List, [], ◌∷◌, slice_get, Option, Some, not, refl, sym, ap, ◌∙◌, subst, if◌then◌else◌, ◌==◌, arith}
use Rattle.std.proofs.lemmas.Bool.Decides.{nat_tests}
use Rattle.mos_edits.specs.Scripts.{has_number, without_number}
use Rattle.server_peer.specs.declared.view.Held.{Held}
use Rattle.server_peer.specs.declared.view.Held.TheVariants as helds
use Rattle.server_peer.specs.Parts.{AreBelow, HasEarlier, others, view_with}

pub others-are : (k : ℕ) (ks : List ℕ) → others k ks ≡ without_number k ks
others-are k [] = refl
others-are k (x ∷ xs) = by (k == x) (others-are k xs)
  where
    by : (b : Bool) → others k xs ≡ without_number k xs → (if not b then x ∷ others k xs else others k xs) ≡ (if b then without_number k xs else x ∷ without_number k xs)
    by true e = e
    by false e = ap (λ (ys : List ℕ). x ∷ ys) e

has-left : (j k : ℕ) (ks : List ℕ) → has_number j (without_number k ks) ≡ true → has_number j ks ≡ true
has-left j k [] h = h
has-left j k (x ∷ xs) h = by (k == x) (has-left j k xs) h
  where
    more : (c : Bool) → has_number j xs ≡ true → (if c then true else has_number j xs) ≡ true
    more true i = refl
    more false i = i

    kept : (c : Bool) → (has_number j (without_number k xs) ≡ true → has_number j xs ≡ true) → (if c then true else has_number j (without_number k xs)) ≡ true → (if c then true else has_number j xs) ≡ true
    kept true i g = refl
    kept false i g = i g

    by : (b : Bool) → (has_number j (without_number k xs) ≡ true → has_number j xs ≡ true) → has_number j (if b then without_number k xs else x ∷ without_number k xs) ≡ true → has_number j (x ∷ xs) ≡ true
    by true i g = more (j == x) (i g)
    by false i g = kept (j == x) i g

pub others-earlier : (h : Held) (k : ℕ) (ks : List ℕ) → HasEarlier (view_with h ks) → HasEarlier (view_with h (others k ks))
others-earlier helds.Out k ks e = tt
others-earlier (helds.Listed m) k ks e = λ j g. e j (has-left j k ks (ap (has_number j) (sym (others-are k ks)) ∙ g))
others-earlier (helds.In n again) k ks e = λ j g. e j (has-left j k ks (ap (has_number j) (sym (others-are k ks)) ∙ g))
others-earlier (helds.From j) k ks e = tt

pub first-has : (k : ℕ) (ks : List ℕ) → slice_get ks 0 ≡ Some k → has_number k ks ≡ true
first-has k [] e = absurd (cc)
first-has k (x ∷ xs) e = let x_is : x ≡ k = cc in subst (λ (y : ℕ). (if k == y then true else has_number k xs) ≡ true) (sym x_is) (by (k == k) refl)
  where
    by : (b : Bool) → (k == k) ≡ b → (if b then true else has_number k xs) ≡ true
    by true f = refl
    by false f = absurd (grind (arith, nat_tests, f))
