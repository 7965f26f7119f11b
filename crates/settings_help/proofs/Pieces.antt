-- Pieces of a line that were appended one after the other.
use Rattle.std.proofs.Common.{◌≡◌, ℕ, List, ◌++◌, ap, ◌∙◌}
use Rattle.std.proofs.lemmas.List.{append_assoc}

pub two_pieces : (o a b y z : List ℕ) → y ≡ o ++ a → z ≡ y ++ b → z ≡ o ++ (a ++ b)
two_pieces o a b y z e f = f ∙ (ap (λ (l : List ℕ). l ++ b) e ∙ append_assoc o a b)

pub three_pieces : (o a b d y z w : List ℕ) → y ≡ o ++ a → z ≡ y ++ b → w ≡ z ++ d → w ≡ o ++ (a ++ b ++ d)
three_pieces o a b d y z w e f g = two_pieces o (a ++ b) d z w (two_pieces o a b y z e f) g

pub four_pieces : (o a b d h y z w v : List ℕ) → y ≡ o ++ a → z ≡ y ++ b → w ≡ z ++ d → v ≡ w ++ h → v ≡ o ++ (a ++ b ++ d ++ h)
four_pieces o a b d h y z w v e f g k = two_pieces o (a ++ b ++ d) h w v (three_pieces o a b d y z w e f g) k

pub five_pieces : (o a b d h k y z w v u : List ℕ) → y ≡ o ++ a → z ≡ y ++ b → w ≡ z ++ d → v ≡ w ++ h → u ≡ v ++ k → u ≡ o ++ (a ++ b ++ d ++ h ++ k)
five_pieces o a b d h k y z w v u p q r s t = two_pieces o (a ++ b ++ d ++ h) k v u (four_pieces o a b d h y z w v p q r s) t
