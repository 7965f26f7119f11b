-- There is always a key that wasn't taken.
use Rattle.std.proofs.Common.{◌≡◌, ℕ, zero, suc, ◌+◌, ◌/◌, ◌%◌, ◌<◌, ◌≤◌, Bool, true, false, cond, List, [], ◌∷◌, length, refl, ap, subst, arith}
use Rattle.mos_fields.specs.Characters.{Text}
use Rattle.mos_fields.specs.Fields.{same}
use Rattle.mos_fields.specs.Forms.{among}
use Rattle.mos_grammar.proofs.Sound.{same-refl, same-is}

-- the texts of a list that are not this one
abbrev pub without : Text → List Text → List Text
without y [] = []
without y (s ∷ ss) = cond (same s y) (without y ss) (s ∷ without y ss)

abbrev pub Apart : List Text → Type 0
Apart [] = Unit {0}
Apart (s ∷ ss) = (among s ss ≡ false) × Apart ss

same-sym_false : (a b : Text) → same a b ≡ false → same b a ≡ false
same-sym_false a b h = go (same b a) refl
  where
    go : (x : Bool) → same b a ≡ x → same b a ≡ false
    go false e = e
    go true e = let p : b ≡ a = same-is b a e in let q : same a b ≡ true = rw p (same-refl a) in absurd cc

not_first : (n m : Text) (ms : List Text) → among n (m ∷ ms) ≡ false → (same n m ≡ false) × (among n ms ≡ false)
not_first n m ms h = go (same n m) refl h
  where
    go : (b : Bool) → same n m ≡ b → cond b true (among n ms) ≡ false → (same n m ≡ false) × (among n ms ≡ false)
    go true e h = absurd cc
    go false e h = (e, h)

absent : (y : Text) (ss : List Text) → among y ss ≡ false → length ss ≤ length (without y ss)
absent y [] h = omega arith
absent y (s ∷ ss) h =
    let p = not_first y s ss h in
    let q : same s y ≡ false = same-sym_false y s p.0 in
    let r : length ss ≤ length (without y ss) = absent y ss p.1 in
    rw q (omega arith)

without_length : (y : Text) (ss : List Text) → Apart ss → length ss ≤ length (without y ss) + 1
without_length y [] a = omega arith
without_length y (s ∷ ss) a = go (without_length y ss a.1) (same s y) refl
  where
    go : length ss ≤ length (without y ss) + 1 → (b : Bool) → same s y ≡ b → length (s ∷ ss) ≤ length (cond b (without y ss) (s ∷ without y ss)) + 1
    go ih true e =
        let p : s ≡ y = same-is s y e in
        let q : length ss ≤ length (without y ss) = absent y ss (subst (λ (x : Text). among x ss ≡ false) p a.0) in
        omega arith
    go ih false e = omega arith

among_without : (x y : Text) (ss : List Text) → among x (without y ss) ≡ true → (among x ss ≡ true) × (same x y ≡ false)
among_without x y [] h = absurd cc
among_without x y (s ∷ ss) h = go (λ e. among_without x y ss e) (same s y) refl h
  where
    first : (b : Bool) → same x s ≡ b → same s y ≡ false → cond b true (among x (without y ss)) ≡ true → (among x (without y ss) ≡ true → (among x ss ≡ true) × (same x y ≡ false)) → (cond b true (among x ss) ≡ true) × (same x y ≡ false)
    first true e d h ih = (refl, (let p : x ≡ s = same-is x s e in rw p d))
    first false e d h ih = ih h

    go : (among x (without y ss) ≡ true → (among x ss ≡ true) × (same x y ≡ false)) → (b : Bool) → same s y ≡ b → among x (cond b (without y ss) (s ∷ without y ss)) ≡ true → (among x (s ∷ ss) ≡ true) × (same x y ≡ false)
    go ih true e h = let p = ih h in (or_true (same x s) (among x ss) p.0, p.1)
      where
        or_true : (a b : Bool) → b ≡ true → cond a true b ≡ true
        or_true true b h = refl
        or_true false b h = h
    go ih false e h = first (same x s) refl e h ih

without_apart : (y : Text) (ss : List Text) → Apart ss → Apart (without y ss)
without_apart y [] a = tt
without_apart y (s ∷ ss) a = go (without_apart y ss a.1) (same s y)
  where
    still : (b : Bool) → among s (without y ss) ≡ b → among s (without y ss) ≡ false
    still false e = e
    still true e = let p = among_without s y ss e in let q = a.0 in absurd cc

    go : Apart (without y ss) → (b : Bool) → Apart (cond b (without y ss) (s ∷ without y ss))
    go ih true = ih
    go ih false = (still (among s (without y ss)) refl, ih)

-- Of more names that are apart than were taken, one wasn't taken.
one_left : (taken ss : List Text) → Apart ss → length taken < length ss → (x : Text) × (among x ss ≡ true) × (among x taken ≡ false)
one_left [] [] a lt = absurd (omega arith)
one_left [] (s ∷ ss) a lt = (s, rw (same-refl s) refl, refl)
one_left (y ∷ ys) ss a lt =
    let shorter : length ys < length (without y ss) = omega (arith, without_length y ss a) in
    let r = one_left ys (without y ss) (without_apart y ss a) shorter in
    let p = among_without r.0 y ss r.1 in
    (r.0, p.0, rw p.1 r.2)

unfoldable pub name_at : ℕ → Text
name_at k = (19968 + k / 4096) ∷ (19968 + k % 4096) ∷ []

abbrev pub names_below : ℕ → List Text
names_below zero = []
names_below (suc n) = name_at n ∷ names_below n

name_at-apart : (n k : ℕ) → k < n → same (name_at n) (name_at k) ≡ false
unfolding name_at
name_at-apart n k lt = go (same (name_at n) (name_at k)) refl
  where
    go : (b : Bool) → same (name_at n) (name_at k) ≡ b → same (name_at n) (name_at k) ≡ false
    go false e = e
    go true e =
        let p = same-is (name_at n) (name_at k) e in
        let q : n / 4096 ≡ k / 4096 = omega (arith, heads p) in
        let r : n % 4096 ≡ k % 4096 = omega (arith, seconds p) in
        absurd (omega arith)
      where
        heads : {a b c d : ℕ} → ◌≡◌ {A = Text} (a ∷ b ∷ []) (c ∷ d ∷ []) → a ≡ c
        heads e = cc

        seconds : {a b c d : ℕ} → ◌≡◌ {A = Text} (a ∷ b ∷ []) (c ∷ d ∷ []) → b ≡ d
        seconds e = cc

below_apart : (n m : ℕ) → m ≤ n → among (name_at n) (names_below m) ≡ false
below_apart n zero le = refl
below_apart n (suc m) le = rw (name_at-apart n m (omega arith)) (below_apart n m (omega arith))

names_apart : (n : ℕ) → Apart (names_below n)
names_apart zero = tt
names_apart (suc n) = (below_apart n n (omega arith), names_apart n)

names_length : (n : ℕ) → length (names_below n) ≡ n
names_length zero = refl
names_length (suc n) = ap suc (names_length n)

are_short : (n : ℕ) (x : Text) → among x (names_below n) ≡ true → length x ≡ 2
unfolding name_at
are_short zero x h = absurd cc
are_short (suc n) x h = go (λ e. are_short n x e) (same x (name_at n)) refl h
  where
    go : (among x (names_below n) ≡ true → length x ≡ 2) → (b : Bool) → same x (name_at n) ≡ b → cond b true (among x (names_below n)) ≡ true → length x ≡ 2
    go ih true e h = ap length (same-is x (name_at n) e)
    go ih false e h = ih h

pub fresh : (taken : List Text) → (x : Text) × (length x ≡ 2) × (among x taken ≡ false)
fresh taken =
    let n = suc (length taken) in
    let r = one_left taken (names_below n) (names_apart n) (omega (arith, names_length n)) in
    (r.0, are_short n r.0 r.1, r.2)
