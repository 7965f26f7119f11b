-- Lemmas on histories.
use Rattle.std.proofs.Common.{◌≡◌, ◌≢◌, ℕ, zero, suc, ◌+◌, ◌<◌, ◌≤◌, ◌⊎◌, inl, inr, ⊎_elim, List, [], ◌∷◌, ◌++◌, length, cond, true, false, Bool, eqb, refl, sym, ap, ◌∙◌, eq-eqb, ne_eqb, append_assoc, append-nil, length-append, arith}
use Rattle.std.specs.Prelude.{Result, Ok, Err, IfOk, IfErr}
use mathlib.Core.Option.{some, some-ne-none, some-injective}
use lib.ListN.{get_elem?}
use Rattle.shared_machine.specs.declared.entry.Entry.{Entry}
use Rattle.shared_machine.specs.History.{StartsWith, entry, calls_by, Reaches}

module _ {X : Type 0} where
  abbrev pub first_or : X → List X → X
  first_or d [] = d
  first_or d (z ∷ zs) = z

  abbrev pub tail_of : List X → List X
  tail_of [] = []
  tail_of (z ∷ zs) = zs

  pub starts_all : (xs : List X) → StartsWith xs xs
  starts_all xs = ([], sym (append-nil xs))

  pub starts_longer : (xs front more : List X) → StartsWith xs front → StartsWith (xs ++ more) front
  starts_longer xs front more s = (s.0 ++ more, ap (λ l. l ++ more) s.1 ∙ append_assoc front s.0 more)

  pub starts_trans : (xs ys zs : List X) → StartsWith xs ys → StartsWith ys zs → StartsWith xs zs
  starts_trans xs ys zs s t = (t.0 ++ s.0, s.1 ∙ (ap (λ l. l ++ s.0) t.1 ∙ append_assoc zs t.0 s.0))

  head_same : (x y : X) (xs ys : List X) → x ∷ xs ≡ y ∷ ys → x ≡ y
  head_same x y xs ys e = ap (first_or x) e

  tail_same : (x y : X) (xs ys : List X) → x ∷ xs ≡ y ∷ ys → xs ≡ ys
  tail_same x y xs ys e = ap tail_of e

  -- of two beginnings of one list the shorter begins the longer
  pub shorter_begins : (history xs ys : List X) → StartsWith history xs → StartsWith history ys → length xs ≤ length ys → StartsWith ys xs
  shorter_begins history [] ys s t le = (ys, refl)
  shorter_begins history (x ∷ xs) [] s t le = absurd (omega arith)
  shorter_begins history (x ∷ xs) (y ∷ ys) s t le =
      let e : x ∷ (xs ++ s.0) ≡ y ∷ (ys ++ t.0) = sym s.1 ∙ t.1 in
      let r = shorter_begins (ys ++ t.0) xs ys (s.0, sym (tail_same x y (xs ++ s.0) (ys ++ t.0) e)) (t.0, refl) (omega arith) in
      let h : y ≡ x = sym (head_same x y (xs ++ s.0) (ys ++ t.0) e) in
      (r.0, λ i. h i ∷ r.1 i)

  pub starts_length : (xs front : List X) → StartsWith xs front → length front ≤ length xs
  starts_length xs front s = let l : length xs ≡ length front + length s.0 = ap length s.1 ∙ length-append front s.0 in omega arith

  pub front_nil : (xs ys : List X) → xs ++ ys ≡ [] → xs ≡ []
  front_nil [] ys e = refl
  front_nil (x ∷ xs) ys e = let l : length (x ∷ (xs ++ ys)) ≡ 0 = ap length e in absurd (omega arith)

  pub short_nil : (xs : List X) → length xs ≡ 0 → xs ≡ []
  short_nil [] e = refl
  short_nil (x ∷ xs) e = absurd (omega arith)

  pub inside : (l : List X) (j : ℕ) (x : X) → get_elem? l j ≡ some x → j < length l
  inside [] j x e = absurd (some-ne-none x (sym e))
  inside (y ∷ ys) zero x e = omega arith
  inside (y ∷ ys) (suc j) x e = let h : j < length ys = inside ys j x e in omega arith

  pub at_end : (l : List X) (a b : X) (j : ℕ) → get_elem? (l ++ a ∷ []) j ≡ some b → (get_elem? l j ≡ some b) ⊎ ((j ≡ length l) × (a ≡ b))
  at_end [] a b zero e = inr (refl, some-injective a b e)
  at_end [] a b (suc j) e = absurd (some-ne-none b (sym e))
  at_end (x ∷ xs) a b zero e = inl e
  at_end (x ∷ xs) a b (suc j) e = ⊎_elim (λ h. inl h) (λ (h : (j ≡ length xs) × (a ≡ b)). inr (ap suc h.0, h.1)) (at_end xs a b j e)

module _ {E A : Type 0} where
  pub calls_by-append : (by : ℕ) (xs ys : List (Entry E A)) → calls_by by (xs ++ ys) ≡ calls_by by xs ++ calls_by by ys
  calls_by-append by [] ys = refl
  calls_by-append by (x ∷ xs) ys = one (eqb x.caller by) (calls_by-append by xs ys)
    where
      one : (b : Bool) → calls_by by (xs ++ ys) ≡ calls_by by xs ++ calls_by by ys
          → cond b (x ∷ calls_by by (xs ++ ys)) (calls_by by (xs ++ ys)) ≡ cond b (x ∷ calls_by by xs) (calls_by by xs) ++ calls_by by ys
      one true h = ap (λ l. x ∷ l) h
      one false h = h

  pub calls_by-mine : (by : ℕ) (e : Entry E A) → e.caller ≡ by → calls_by by (e ∷ []) ≡ e ∷ []
  calls_by-mine by e is = ap (λ b. cond b (e ∷ []) []) (eq-eqb e.caller by is)

  pub calls_by-else : (by : ℕ) (e : Entry E A) → e.caller ≢ by → calls_by by (e ∷ []) ≡ []
  calls_by-else by e not = ap (λ b. cond b (e ∷ []) []) (ne_eqb e.caller by not)

  -- a caller with no call in a history has none in its beginning
  pub none_before : (by : ℕ) (history seen : List (Entry E A)) → StartsWith history seen → calls_by by history ≡ [] → calls_by by seen ≡ []
  none_before by history seen s none = front_nil (calls_by by seen) (calls_by by s.0) (sym (calls_by-append by seen s.0) ∙ (ap (calls_by by) (sym s.1) ∙ none))

  -- a caller whose calls were all seen has no other before the history's end
  pub own_between : (by : ℕ) (history later seen : List (Entry E A)) → StartsWith history later → StartsWith later seen → calls_by by history ≡ calls_by by seen → calls_by by later ≡ calls_by by seen
  own_between by history later seen s t own =
      let a : calls_by by history ≡ calls_by by later ++ calls_by by s.0 = ap (calls_by by) s.1 ∙ calls_by-append by later s.0 in
      let b : calls_by by later ≡ calls_by by seen ++ calls_by by t.0 = ap (calls_by by) t.1 ∙ calls_by-append by seen t.0 in
      let la : length (calls_by by history) ≡ length (calls_by by later) + length (calls_by by s.0) = ap length a ∙ length-append (calls_by by later) (calls_by by s.0) in
      let lb : length (calls_by by later) ≡ length (calls_by by seen) + length (calls_by by t.0) = ap length b ∙ length-append (calls_by by seen) (calls_by by t.0) in
      let lo : length (calls_by by history) ≡ length (calls_by by seen) = ap length own in
      let none : calls_by by t.0 ≡ [] = short_nil (calls_by by t.0) (omega arith) in
      b ∙ (ap (λ l. calls_by by seen ++ l) none ∙ append-nil (calls_by by seen))

module _ {M E A : Type 0} (steps : M → E → A → M → Type 0) (refusal : M → M → Type 0) (decks_left : M → ℕ) where
  pub reaches_refusal : ((x y z : M) → refusal x y → refusal y z → refusal x z) → (start : M) (history : List (Entry E A)) (m n : M) → Reaches steps refusal decks_left start history m → refusal m n
      → Reaches steps refusal decks_left start history n
  reaches_refusal on start [] m n r i = on start m n r i
  reaches_refusal on start (e ∷ es) m n r i = (r.0, r.1, r.2, r.3, r.4, reaches_refusal on r.1 es m n r.5 i)

  pub reaches_step : ((x : M) → refusal x x) → (start : M) (history : List (Entry E A)) (m n : M) (by : ℕ) (event : E) (answer : A) → Reaches steps refusal decks_left start history m → steps m event answer n
      → Reaches steps refusal decks_left start (history ++ entry by event answer (decks_left n) ∷ []) n
  reaches_step refusal_reflexive start [] m n by event answer r s = (m, n, r, s, refl, refusal_reflexive n)
  reaches_step refusal_reflexive start (e ∷ es) m n by event answer r s = (r.0, r.1, r.2, r.3, r.4, reaches_step refusal_reflexive r.1 es m n by event answer r.5 s)

module _ {T Er : Type 0} where
  pub if_ok : (r : Result T Er) (P Q : T → Type 0) → ((a : T) → P a → Q a) → IfOk r P → IfOk r Q
  if_ok (Ok a) P Q f h = f a h
  if_ok (Err e) P Q f h = tt

  pub if_err : (r : Result T Er) (P Q : Er → Type 0) → ((a : Er) → P a → Q a) → IfErr r P → IfErr r Q
  if_err (Ok a) P Q f h = tt
  if_err (Err e) P Q f h = f e h

-- one slot in hand has one value
pub same_in_hand : {B : Type 0} (b c : B) (l : List (ℕ × B)) → l ≡ (0, b) ∷ [] → l ≡ (0, c) ∷ [] → b ≡ c
same_in_hand {B} b c l p q = ap (λ (xs : List (ℕ × B)). (first_or {X = ℕ × B} (0, b) xs).1) (sym p ∙ q)

-- a history of a machine with a rest is one of the machine alone
pub reaches_first : {M D E A : Type 0} (steps : M → E → A → M → Type 0) (refusal : M → M → Type 0) (decks_left : M → ℕ) (x : M × D) (history : List (Entry E A)) (y : M × D)
    → Reaches (λ (s : M × D) e a (t : M × D). steps s.0 e a t.0) (λ (s t : M × D). refusal s.0 t.0) (λ (s : M × D). decks_left s.0) x history y → Reaches steps refusal decks_left x.0 history y.0
reaches_first steps refusal decks_left x [] y r = r
reaches_first steps refusal decks_left x (e ∷ es) y r = (r.0.0, r.1.0, r.2, r.3, r.4, reaches_first steps refusal decks_left r.1 es y r.5)
