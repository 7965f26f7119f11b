-- The end tag of a message stands in bytes.
use Rattle.std.proofs.Common.{◌≡◌, ap, sym, subst, ℕ, ◌-◌, List, [], ◌∷◌, ◌++◌, drop, length, take}
use Rattle.std.proofs.lemmas.List.{take_rest}
use Rattle.file_keeper.specs.Tails.{BeginsWithEnd, HoldsEnd, end_tag}

pub holds_front : (xs : List ℕ) → BeginsWithEnd xs → HoldsEnd xs
holds_front xs b = record { before = []; after = b.0; is = b.1 }

behind : (xs : List ℕ) → HoldsEnd (drop 1 xs) → HoldsEnd xs
behind [] h = h
behind (x ∷ xs) h = record { before = x ∷ h.before; after = h.after; is = ap (λ l. x ∷ l) h.is }

later : (xs before after : List ℕ) → (BeginsWithEnd xs → ⊥) → xs ≡ before ++ (end_tag ++ after) → HoldsEnd (drop 1 xs)
later xs [] after none is = absurd (none (after, is))
later xs (b ∷ bs) after none is = record { before = bs; after = after; is = ap (λ l. drop 1 l) is }

-- where it isn't the front, it stands in all but the first byte, and the other way round
pub holds_behind : (xs : List ℕ) → HoldsEnd (take (length xs - 1) (drop 1 xs)) → HoldsEnd xs
holds_behind xs h = behind xs (subst HoldsEnd (take_rest xs 1) h)

pub holds_later : (xs : List ℕ) → (BeginsWithEnd xs → ⊥) → HoldsEnd xs → HoldsEnd (take (length xs - 1) (drop 1 xs))
holds_later xs none h = subst HoldsEnd (sym (take_rest xs 1)) (later xs h.before h.after none h.is)
