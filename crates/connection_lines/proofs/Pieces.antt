-- Pieces of a line that were appended one after the other.
use Rattle.std.proofs.Common.{◌≡◌, ℕ, List, ◌++◌, ap, ◌∙◌}
use Rattle.std.proofs.lemmas.List.{append_assoc}

pub two_pieces : (o a b y z : List ℕ) → y ≡ o ++ a → z ≡ y ++ b → z ≡ o ++ (a ++ b)
two_pieces o a b y z e f = f ∙ (ap (λ (l : List ℕ). l ++ b) e ∙ append_assoc o a b)
