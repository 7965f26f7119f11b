-- Stories whose items have numbers of samples that fit, one story after the other.
use Rattle.std.proofs.Common.{◌≡◌, ℕ, zero, suc, ◌+◌, List, [], ◌∷◌, drop, slice_get, Some, subst, arith}
use Rattle.mos_edits.specs.Orders.{Story}
use Rattle.mos_machines.specs.Small.{AreSmallItems, AreSmallStories}

pub stories-more : (stories : List Story) (n : ℕ) (x : Story) → slice_get stories n ≡ Some x → AreSmallItems x.items → AreSmallStories (drop (n + 1) stories) → AreSmallStories (drop n stories)
stories-more [] n x e s m = absurd (cc)
stories-more (i ∷ is) zero x e s m = let f : x ≡ i = cc in (subst (λ (y : Story). AreSmallItems y.items) f s, m)
stories-more (i ∷ is) (suc n) x e s m =
    let k : suc n + 1 ≡ suc (n + 1) = omega arith in
    stories-more is n x e s (subst (λ (j : ℕ). AreSmallStories (drop j (i ∷ is))) k m)
