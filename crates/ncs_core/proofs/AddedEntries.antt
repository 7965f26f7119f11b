-- Entries that are added behind those of a journal, one after the other.
use Rattle.std.proofs.Common.{◌≡◌, ℕ, zero, suc, ◌+◌, ◌<◌, ◌≤◌, List, [], ◌∷◌, ◌++◌, length, take, get_or, slice_get, Some, None, refl, sym, ap, ◌∙◌, subst, arith}
use Rattle.std.proofs.lemmas.List.{append-nil, append_assoc, take_more, take_all}
use Rattle.mos_edits.specs.KeyedLists.{ActFault}
use Rattle.mos_edits.specs.Entries.{Entry, Refusal, acceptance, IsAccepted}
use Rattle.ncs_core.specs.Accepting.{IsRefusal}
use Rattle.ncs_core.specs.Starting.{IsRefused, IsFirstRefused, IsEntryCause, entry_cause_of}
use Rattle.ncs_core.specs.declared.fault.CommandFault.{CommandFault}
use Rattle.ncs_core.specs.declared.fault.CommandFault.TheVariants.{Stopped, Missing, AlreadyThere, Full, StoreFault, NoMemory}
use Rattle.ncs_core.proofs.AcceptedRows.{accepted-more}

-- the first of a list, and the next one
more : (es : List Entry) (n : ℕ) (x : Entry) → n < length es → x ≡ get_or es n x → take n es ++ x ∷ [] ≡ take (n + 1) es
more es n x h e = sym (take_more es n x h ∙ ap (λ (y : Entry). take n es ++ y ∷ []) (sym e))

more-behind : (j es : List Entry) (n : ℕ) (x : Entry) → n < length es → x ≡ get_or es n x → (j ++ take n es) ++ x ∷ [] ≡ j ++ take (n + 1) es
more-behind j es n x h e = append_assoc j (take n es) (x ∷ []) ∙ ap (λ (ys : List Entry). j ++ ys) (more es n x h e)

split : (es : List Entry) (n : ℕ) (x : Entry) → n < length es → x ≡ get_or es n x → (rest : List Entry) × (es ≡ take n es ++ x ∷ rest)
split [] n x h e = absurd (omega (arith, h))
split (y ∷ ys) zero x h e = (ys, ap (λ (z : Entry). z ∷ ys) (sym e))
split (y ∷ ys) (suc n) x h e = let s = split ys n x (omega (arith, h)) e in (s.0, ap (λ (zs : List Entry). y ∷ zs) s.1)

there : (front rest : List Entry) (x : Entry) → slice_get (front ++ x ∷ rest) (length front) ≡ Some x
there [] rest x = refl
there (y ∷ ys) rest x = there ys rest x

front-is : (front rest : List Entry) → take (length front) (front ++ rest) ≡ front
front-is [] rest = refl
front-is (y ∷ ys) rest = ap (λ (zs : List Entry). y ∷ zs) (front-is ys rest)

-- the entry behind this front is the first that isn't accepted
refused-behind : (front rest : List Entry) (x : Entry) (why : Refusal) → IsAccepted [] front → acceptance front x ≡ Some why → IsFirstRefused (front ++ x ∷ rest) (length front)
refused-behind front rest x why a w =
    let is = front-is front (x ∷ rest) in
    record {
      entry = x;
      there = there front rest x;
      before = subst (λ (xs : List Entry). IsAccepted [] xs) (sym is) a;
      refused = subst (λ (xs : List Entry). IsRefused (acceptance xs x)) (sym is) (subst IsRefused (sym w) tt);
    }

cause : (front rest all : List Entry) (x : Entry) (n : ℕ) (f : CommandFault) → all ≡ front ++ x ∷ rest → n ≡ length front → IsAccepted [] front → IsRefusal (acceptance front x) f → IsEntryCause all (entry_cause_of n f)
cause front rest all x n f whole number a w = by f w
  where
    bad : (why : Refusal) → acceptance front x ≡ Some why → IsFirstRefused all n
    bad why w = subst (λ (m : ℕ). IsFirstRefused all m) (sym number) (subst (λ (es : List Entry). IsFirstRefused es (length front)) (sym whole) (refused-behind front rest x why a w))

    by : (f : CommandFault) → IsRefusal (acceptance front x) f → IsEntryCause all (entry_cause_of n f)
    by Stopped w = absurd w
    by (Missing id) w = bad (Refusal.Faulty (ActFault.Missing id)) w
    by (AlreadyThere id) w = bad (Refusal.Faulty (ActFault.AlreadyThere id)) w
    by (Full units) w = bad (Refusal.Full units) w
    by StoreFault w = absurd w
    by NoMemory w = tt

pub none-added : (j es : List Entry) → j ≡ j ++ take 0 es
none-added j es = sym (append-nil j)

pub none-accepted : (j es : List Entry) → IsAccepted [] j → IsAccepted [] (j ++ take 0 es)
none-accepted j es a = subst (λ (xs : List Entry). IsAccepted [] xs) (sym (append-nil j)) a

-- `j` is the journal before, `s` that before this entry, which is entry `n` of those that are added
module _ (j s es : List Entry) (n : ℕ) where
  pub one-added : (t : List Entry) (x : Entry) → n < length es → x ≡ get_or es n x → s ≡ j ++ take n es → t ≡ s ++ x ∷ [] → t ≡ j ++ take (n + 1) es
  one-added t x h e b c = c ∙ (ap (λ (xs : List Entry). xs ++ x ∷ []) b ∙ more-behind j es n x h e)

  pub all-added : length es ≤ n → s ≡ j ++ take n es → s ≡ j ++ es
  all-added h b = b ∙ ap (λ (xs : List Entry). j ++ xs) (take_all n es h)

  pub one-accepted : (x : Entry) → n < length es → x ≡ get_or es n x → s ≡ j ++ take n es → IsAccepted [] (j ++ take n es) → acceptance s x ≡ None → IsAccepted [] (j ++ take (n + 1) es)
  one-accepted x h e b a c =
      subst (λ (xs : List Entry). IsAccepted [] xs) (more-behind j es n x h e) (accepted-more [] (j ++ take n es) x a (subst (λ (xs : List Entry). acceptance xs x ≡ None) b c))

  pub first-refused : (number : ℕ) (x : Entry) (f : CommandFault) → n < length es → x ≡ get_or es n x → s ≡ j ++ take n es → number ≡ length s → IsAccepted [] (j ++ take n es) → IsRefusal (acceptance s x) f → IsEntryCause (j ++ es) (entry_cause_of number f)
  first-refused number x f h e b k a c =
      let r = split es n x h e in
      cause (j ++ take n es) r.0 (j ++ es) x number f (ap (λ (xs : List Entry). j ++ xs) r.1 ∙ sym (append_assoc j (take n es) (x ∷ r.0))) (k ∙ ap length b) a (subst (λ (xs : List Entry). IsRefusal (acceptance xs x) f) b c)

pub accepted-all : (j es : List Entry) (n : ℕ) → length es ≤ n → IsAccepted [] (j ++ take n es) → IsAccepted [] (j ++ es)
accepted-all j es n h a = subst (λ (xs : List Entry). IsAccepted [] (j ++ xs)) (take_all n es h) a
