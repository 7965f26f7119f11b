-- The numbers of the entries whose scripts stand.
use Rattle.std.proofs.Common.{◌≡◌, ℕ, ◌<◌, Bool, true, false, List, [], ◌∷◌, refl, if◌then◌else◌, ◌==◌, arith}
use Rattle.std.proofs.lemmas.Bool.Decides.{nat_tests}
use Rattle.mos_edits.specs.Scripts.{has_number}
use Rattle.server_peer.specs.Parts.{AreBelow}
use Rattle.script_numbers.specs.Numbers.{AreBelow as EachBelow}

pub numbers-below : (n : ℕ) (ks : List ℕ) → EachBelow n ks → AreBelow n ks
numbers-below n [] h k g = absurd (cc)
numbers-below n (x ∷ xs) h k g = by (k == x) refl g (numbers-below n xs h.1 k)
  where
    by : (b : Bool) → (k == x) ≡ b → (if b then true else has_number k xs) ≡ true → (has_number k xs ≡ true → k < n) → k < n
    by true e f i = let l = h.0 in grind (arith, nat_tests, e, l)
    by false e f i = i f
