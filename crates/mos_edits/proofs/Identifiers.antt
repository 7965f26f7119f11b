-- Identifiers are told apart as they are, and lists of them.
use Rattle.std.proofs.Common.{◌≡◌, List, [], ◌∷◌, ◌++◌, true, false, not, ◌&&◌, ◌||◌, arith, refl}
use Rattle.std.proofs.lemmas.Slice.Eq.{bytes_eq-Decides}
use Rattle.std.specs.Bool.{Decides}
use Rattle.mos_edits.specs.Texts.{Text, same_id, has_id}
use Rattle.mos_edits.specs.KeyedLists.{without}

pub same-Decides : (q r : Text) → Decides (same_id q r) (q ≡ r)
unfolding same_id
same-Decides q r = bytes_eq-Decides q r

pub same-true : (q r : Text) → same_id q r ≡ true → q ≡ r
unfolding same_id
same-true q r h = grind (arith, bytes_eq-Decides, h)

pub same-self : (r : Text) → same_id r r ≡ true
unfolding same_id
same-self r = grind (arith, bytes_eq-Decides)

-- told apart from either end
pub same-false : (q r : Text) → same_id r q ≡ false → same_id q r ≡ false
unfolding same_id
same-false q r h = grind (arith, bytes_eq-Decides, h)

pub same-sym : (q r : Text) → same_id q r ≡ same_id r q
unfolding same_id
same-sym q r = grind (arith, bytes_eq-Decides)

pub has-append : (x : Text) (xs ys : List Text) → has_id x (xs ++ ys) ≡ has_id x xs || has_id x ys
has-append x [] ys = refl
has-append x (y ∷ xs) ys = let h = has-append x xs ys in grind (arith, h)

pub has-without : (x : Text) (gone xs : List Text) → has_id x (without (λ id. id) gone xs) ≡ has_id x xs && not (has_id x gone)
has-without x gone [] = refl
has-without x gone (y ∷ xs) = let h = has-without x gone xs in grind (arith, h, same-true)
