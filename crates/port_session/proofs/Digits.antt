-- Digits of a number.
use Rattle.std.proofs.Common.{◌≡◌, ℕ, ◌+◌, ◌/◌, ◌%◌, ◌<◌, ◌≤◌, List, [], ◌∷◌, ◌++◌, sym, ap, ◌∙◌, arith}
use Rattle.std.proofs.lemmas.Fmt.{decimal_step}
use Rattle.std.proofs.lemmas.List.{append_assoc}
use Rattle.std.specs.Fmt.{decimal}

-- one more digit behind those of a tenth
pub decimal_after : (out : List ℕ) (n : ℕ) → 10 ≤ n → n < 18446744073709551616 → (out ++ decimal (n / 10)) ++ (48 + n % 10) ∷ [] ≡ out ++ decimal n
decimal_after out n h k = append_assoc out (decimal (n / 10)) ((48 + n % 10) ∷ []) ∙ ap (λ x. out ++ x) (sym (decimal_step n h (omega arith)))
