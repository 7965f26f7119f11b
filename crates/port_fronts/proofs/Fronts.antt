-- Bytes in front of a source are given before its own.
use Rattle.std.proofs.Common.{◌≡◌, ℕ, ◌+◌, List, [], ◌++◌, length, Option, Some, None, refl, sym, ap, ◌∙◌, append_assoc, arith}
use Rattle.std.proofs.lemmas.List.{length-append}
use Rattle.mos_io.specs.Bytes.{Falls, IsAtEnd, Takes}
use Rattle.port_fronts.specs.Fronts.{before, bound_before}

pub front_taken : (l : Option (List ℕ)) (a b x : List ℕ) → a ≡ x ++ b → Takes (before a l) (before b l) x
front_taken None a b x e = refl
front_taken (Some r) a b x e = (b ++ r, ap (λ (l : List ℕ). l ++ r) e ∙ append_assoc x b r, refl)

pub back_taken : (l l' : Option (List ℕ)) (x : List ℕ) → Takes l l' x → Takes (before [] l) (before [] l') x
back_taken None l' x t = ap (before []) t
back_taken (Some r) l' x t = (t.0, t.1, ap (before []) t.2)

pub back_ended : (l : Option (List ℕ)) → IsAtEnd l → IsAtEnd (before [] l)
back_ended None e = e
back_ended (Some r) e = e

pub front_falls : (bound : Option ℕ) (a b x : List ℕ) (n : ℕ) → a ≡ x ++ b → length x ≡ n → Falls (bound_before (length a) bound) (bound_before (length b) bound) n
front_falls None a b x n e size = refl
front_falls (Some k) a b x n e size =
    let whole : length a ≡ length (x ++ b) = ap length e in
    let parts = length-append x b in (length b + k, omega arith, refl)

pub back_falls : (bound bound' : Option ℕ) (n : ℕ) → Falls bound bound' n → Falls (bound_before 0 bound) (bound_before 0 bound') n
back_falls None bound' n f = ap (bound_before 0) f
back_falls (Some k) bound' n f = let e = f.1 in (0 + f.0, omega arith, ap (bound_before 0) f.2)

-- what was taken and what is left are what was left before
pub taken_before : (l l' : Option (List ℕ)) (x : List ℕ) → Takes l l' x → before x l' ≡ l
taken_before None l' x t = ap (before x) t
taken_before (Some r) l' x t = ap (before x) t.2 ∙ sym (ap Some t.1)
