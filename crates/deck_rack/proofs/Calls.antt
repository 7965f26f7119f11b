-- Decks that are called one after the other.
use Rattle.std.proofs.Common.{◌≡◌, ℕ, zero, suc, ◌+◌, ◌-◌, ◌<◌, ◌≤◌, Bool, true, false, List, [], ◌∷◌, ◌++◌, length, take, drop, remove, slice_set, get_or, refl, sym, ap, subst, ◌∙◌, if◌then◌else◌, arith}
use Rattle.std.proofs.lemmas.List.{append-nil, take_all, drop_all}
use Rattle.mos_edits.specs.Texts.{Text}
use Rattle.deck_rack.specs.Decks.{DeckView, Row, IsCalled, AreCalled, IsCalledAt}

-- the place that is next
abbrev pub next : ℕ → Bool → ℕ
next i true = suc i
next i false = i

module _ {X : Type 0} (view : X → DeckView) (change : Row → Row) (ro : Text) where
  pub called-stays : (xs : List X) (i : ℕ) (d e : X) (ok : Bool) → i < length xs → d ≡ get_or xs i d → IsCalled view change ro d e ok → ok ≡ true → IsCalledAt view change ro xs i (slice_set xs i e) ok
  called-stays [] i d e ok lt is call h = absurd (omega (arith, lt))
  called-stays (x ∷ xs) zero d e ok lt is call h = (e, subst (λ (y : X). IsCalled view change ro y e ok) is call, ap (λ (b : Bool). if b then e ∷ xs else xs) (sym h))
  called-stays (x ∷ xs) (suc i) d e ok lt is call h = (slice_set xs i e, refl, called-stays xs i d e ok (omega (arith, lt)) is call h)

  pub called-goes : (xs : List X) (i : ℕ) (d e : X) (ok : Bool) → i < length xs → d ≡ get_or xs i d → IsCalled view change ro d e ok → ok ≡ false → IsCalledAt view change ro xs i (remove (slice_set xs i e) i) ok
  called-goes [] i d e ok lt is call h = absurd (omega (arith, lt))
  called-goes (x ∷ xs) zero d e ok lt is call h = (e, subst (λ (y : X). IsCalled view change ro y e ok) is call, ap (λ (b : Bool). if b then e ∷ xs else xs) (sym h))
  called-goes (x ∷ xs) (suc i) d e ok lt is call h = (remove (slice_set xs i e) i, refl, called-goes xs i d e ok (omega (arith, lt)) is call h)

  -- those from the next place on, and with them those from this one on
  pub record IsStep (xs : List X) (i : ℕ) (ys : List X) (ok : Bool) (rest : List X) : Type 0 where
    pub whole : List X
    pub calls : AreCalled view change ro (drop i xs) whole
    pub same : take (next i ok) ys ++ rest ≡ take i xs ++ whole

  pub one-step : (xs : List X) (i : ℕ) (ys : List X) (ok : Bool) (rest : List X) → IsCalledAt view change ro xs i ys ok → AreCalled view change ro (drop (next i ok) ys) rest → IsStep xs i ys ok rest
  one-step [] i ys ok rest at more = absurd at
  one-step (d ∷ ds) zero ys true rest (e, call, is) more = record {
    whole = e ∷ rest;
    calls = (e, true, rest, call, subst (λ (l : List X). AreCalled view change ro (drop 1 l) rest) is more, refl);
    same = ap (λ (l : List X). take 1 l ++ rest) is;
  }
  one-step (d ∷ ds) zero ys false rest (e, call, is) more = record {
    whole = rest;
    calls = (e, false, rest, call, subst (λ (l : List X). AreCalled view change ro l rest) is more, refl);
    same = refl;
  }
  one-step (d ∷ ds) (suc i) ys true rest (left, is, at) more =
      let step = one-step ds i left true rest at (subst (λ (l : List X). AreCalled view change ro (drop (suc (suc i)) l) rest) is more) in
      record { whole = step.whole; calls = step.calls; same = ap (λ (l : List X). take (suc (suc i)) l ++ rest) is ∙ ap (λ (l : List X). d ∷ l) step.same }
  one-step (d ∷ ds) (suc i) ys false rest (left, is, at) more =
      let step = one-step ds i left false rest at (subst (λ (l : List X). AreCalled view change ro (drop (suc i) l) rest) is more) in
      record { whole = step.whole; calls = step.calls; same = ap (λ (l : List X). take (suc i) l ++ rest) is ∙ ap (λ (l : List X). d ∷ l) step.same }

  pub less : (xs : List X) (i : ℕ) (ys : List X) (ok : Bool) → IsCalledAt view change ro xs i ys ok → (i < length xs) × (length ys - next i ok < length xs - i)
  less [] i ys ok at = absurd at
  less (d ∷ ds) zero ys true (e, call, is) = let n = ap length is in (omega arith, omega (arith, n))
  less (d ∷ ds) zero ys false (e, call, is) = let n = ap length is in (omega arith, omega (arith, n))
  less (d ∷ ds) (suc i) ys true (left, is, at) = let n = ap length is in let m = less ds i left true at in (omega (arith, m), omega (arith, n, m))
  less (d ∷ ds) (suc i) ys false (left, is, at) = let n = ap length is in let m = less ds i left false at in (omega (arith, m), omega (arith, n, m))

  -- the loop
  abbrev pub Goes : List X → ℕ → List X → Type 0
  Goes xs i ys = (rest : List X) → AreCalled view change ro (drop i ys) rest → AreCalled view change ro xs (take i ys ++ rest)

  pub goes-on : (xs ys zs : List X) (i : ℕ) (ok : Bool) → Goes xs i ys → IsCalledAt view change ro ys i zs ok → Goes xs (next i ok) zs
  goes-on xs ys zs i ok goes at rest more =
      let step = one-step ys i zs ok rest at more in
      subst (AreCalled view change ro xs) (sym step.same) (goes step.whole step.calls)

  pub goes-end : (xs ys : List X) (i : ℕ) → length ys ≤ i → Goes xs i ys → AreCalled view change ro xs ys
  goes-end xs ys i le goes =
      let none : AreCalled view change ro (drop i ys) [] = subst (λ (l : List X). AreCalled view change ro l []) (sym (drop_all i ys le)) refl in
      subst (AreCalled view change ro xs) (append-nil (take i ys) ∙ take_all i ys le) (goes [] none)

  -- no deck comes
  pub called-fewer : (xs ys : List X) → AreCalled view change ro xs ys → length ys ≤ length xs
  called-fewer [] ys e = let n = ap length e in omega (arith, n)
  called-fewer (d ∷ ds) ys (after, true, rest, call, more, is) = let n = ap length is in let r = called-fewer ds rest more in omega (arith, n, r)
  called-fewer (d ∷ ds) ys (after, false, rest, call, more, is) = let n = ap length is in let r = called-fewer ds rest more in omega (arith, n, r)
