-- The entries that a keeper in memory holds: those that stand, and one behind them that may still be settled.
use Rattle.std.proofs.Common.{◌≡◌, ℕ, zero, suc, ◌+◌, ◌≤◌, Bool, true, false, List, [], ◌∷◌, ◌++◌, length, take, slice_get, set, Option, Some, None, refl, sym, ap, ◌∙◌, if◌then◌else◌, arith}
use Rattle.std.proofs.lemmas.List.{take_all, take_at, set_split, drop_all, length_push, length-take-le}
use Rattle.std.proofs.lemmas.Option.{slice_get_past}
use Rattle.mos_edits.specs.Entries.{Entry}
use Rattle.rundown_log.specs.Memory.{Doubt, HeldEntries, doubt_of, held_kept, kept_with, settled_doubt}

abbrev pub held : ℕ → Bool → List Entry → HeldEntries
held n s xs = record { certain = take n xs; doubtful = doubt_of s (slice_get xs n) }

kept-more : (d : Option Doubt) (x : Entry) (xs : List Entry) → kept_with d (x ∷ xs) ≡ x ∷ kept_with d xs
kept-more None x xs = refl
kept-more (Some d) x xs = by d.stands
  where
    by : (b : Bool) → (if b then x ∷ (xs ++ d.entry ∷ []) else x ∷ xs) ≡ x ∷ (if b then xs ++ d.entry ∷ [] else xs)
    by true = refl
    by false = refl

take-more : (s : Bool) (a b : ℕ) (x : Entry) (xs : List Entry) → x ∷ take (if s then a else b) xs ≡ take (if s then suc a else suc b) (x ∷ xs)
take-more true a b x xs = refl
take-more false a b x xs = refl

first-kept : (s : Bool) (x : Entry) → kept_with (Some (record { entry = x; stands = s })) [] ≡ take (if s then suc zero else zero) (x ∷ [])
first-kept true x = refl
first-kept false x = refl

none-kept : (s : Bool) → kept_with None [] ≡ take (if s then zero else zero) []
none-kept true = refl
none-kept false = refl

-- the entries that are kept are so many of all
pub kept-is : (n : ℕ) (s : Bool) (xs : List Entry) → n ≤ length xs → length xs ≤ n + 1 → held_kept (held n s xs) ≡ take (if s then length xs else n) xs
kept-is zero s [] l m = none-kept s
kept-is zero s (x ∷ []) l m = first-kept s x
kept-is zero s (x ∷ y ∷ ys) l m = absurd (omega (arith, m))
kept-is (suc n) s [] l m = absurd (omega (arith, l))
kept-is (suc n) s (x ∷ xs) l m =
    kept-more (doubt_of s (slice_get xs n)) x (take n xs)
    ∙ (ap (λ (ys : List Entry). x ∷ ys) (kept-is n s xs (omega (arith, l)) (omega (arith, m))) ∙ take-more s (length xs) n x xs)

pub settled-is : (s t : Bool) (o : Option Entry) → doubt_of t o ≡ settled_doubt t (doubt_of s o)
settled-is s t None = refl
settled-is s t (Some e) = refl

-- an entry put behind the first `n`
pub put-in : (n : ℕ) (xs : List Entry) (e : Entry) → n ≤ length xs → length xs ≤ n + 1 → suc n ≤ length xs → set xs n e ≡ take n xs ++ e ∷ []
put-in n xs e l m h = set_split xs n e (omega (arith, h)) ∙ ap (λ (ys : List Entry). take n xs ++ e ∷ ys) (drop_all (suc n) xs (omega (arith, m)))

last-there : (p : List Entry) (e : Entry) → slice_get (p ++ e ∷ []) (length p) ≡ Some e
last-there [] e = refl
last-there (x ∷ p) e = last-there p e

take-length : {X : Type 0} (n : ℕ) (xs : List X) → n ≤ length xs → length (take n xs) ≡ n
take-length n xs l = length-take-le n xs l

abbrev pub closed : HeldEntries → HeldEntries
closed h = record { certain = held_kept h; doubtful = None }

-- `n` of the entries are kept, as `s` says
pub kept-within : (s : Bool) (n k len : ℕ) (xs : List Entry) → len ≡ length xs → k ≤ length xs → n ≡ (if s then len else k) → n ≤ length xs
kept-within true n k len xs e l h = omega (arith, e, h)
kept-within false n k len xs e l h = omega (arith, l, h)

pub kept-here : (h : HeldEntries) (s : Bool) (n k len : ℕ) (xs : List Entry) → held k s xs ≡ h → k ≤ length xs → length xs ≤ k + 1 → len ≡ length xs → n ≡ (if s then len else k) → held_kept h ≡ take n xs
kept-here h s n k len xs v l m e is =
    ap held_kept (sym v) ∙ (kept-is k s xs l m ∙ ap (λ (j : ℕ). take j xs) (ap (λ (j : ℕ). if s then j else k) (sym e) ∙ sym is))

module _ (h : HeldEntries) (s : Bool) (n : ℕ) (xs ys : List Entry) (is : held_kept h ≡ take n xs) (l : n ≤ length xs) where
  -- what is behind those that are kept is cut off
  pub closed-is : ys ≡ take n xs → held n s ys ≡ closed h
  closed-is e =
      let count : length ys ≡ n = ap length e ∙ take-length n xs l in
      let all : take n ys ≡ held_kept h = take_all n ys (omega (arith, count)) ∙ (e ∙ sym is) in
      let none : slice_get ys n ≡ None = slice_get_past ys n (omega (arith, count)) in
      λ i. record { certain = all i; doubtful = doubt_of s (none i) }

  module _ (x : Entry) (e : ys ≡ take n xs ++ x ∷ []) where
    longer : length ys ≡ n + 1
    longer = ap length e ∙ (length_push (take n xs) x ∙ ap (λ (j : ℕ). j + 1) (take-length n xs l))

    pub put-is : (k : ℕ) → k ≡ length ys → held k s ys ≡ record { certain = held_kept h ++ x ∷ []; doubtful = None }
    put-is k c =
        let all : take k ys ≡ held_kept h ++ x ∷ [] = take_all k ys (omega (arith, c)) ∙ (e ∙ ap (λ (zs : List Entry). zs ++ x ∷ []) (sym is)) in
        let none : slice_get ys k ≡ None = slice_get_past ys k (omega (arith, c)) in
        λ i. record { certain = all i; doubtful = doubt_of s (none i) }

    pub doubt-is : held n s ys ≡ record { certain = held_kept h; doubtful = Some (record { entry = x; stands = s }) }
    doubt-is =
        let front : take n ys ≡ held_kept h = ap (λ (zs : List Entry). take n zs) e ∙ (take_at (take n xs) (x ∷ []) n (take-length n xs l) ∙ sym is) in
        let last : slice_get ys n ≡ Some x = ap (λ (zs : List Entry). slice_get zs n) e ∙ (ap (λ (j : ℕ). slice_get (take n xs ++ x ∷ []) j) (sym (take-length n xs l)) ∙ last-there (take n xs) x) in
        λ i. record { certain = front i; doubtful = doubt_of s (last i) }
