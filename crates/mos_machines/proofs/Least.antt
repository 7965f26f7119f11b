-- `first_due`, which scans the journal, is the due one with the least journal number: what a server that keeps queues proves.
use Rattle.std.proofs.Common.{◌≡◌, ℕ, zero, suc, ◌+◌, ◌<◌, ◌⊎◌, List, [], ◌∷◌, length, take, slice_get, Bool, true, false, Some, arith, refl, if◌then◌else◌, ap, ◌∙◌, subst}
use Rattle.mos_edits.specs.Texts.{Text, same_id, set_order}
use Rattle.mos_edits.specs.Entries.{Entry, entry_count, entries}
use Rattle.mos_machines.specs.Server.{ServerOut, View, due_at, due_in, first_due, first_of_two}
use Rattle.mos_machines.specs.Server.View.{In, From}
use Rattle.mos_machines.specs.Server.ServerOut.{Idle, SendsEdit, SendsAgain, SendsScript, SendsBeat}
use Rattle.std.proofs.lemmas.Bool.Decides.{nat_tests}
use Rattle.mos_edits.proofs.Identifiers.{same-true, same-self, same-false}

first_idle : (a b : ServerOut) → a ≡ Idle → first_of_two a b ≡ b
first_idle a b e = rw e refl

first_some : (a b : ServerOut) → (a ≡ Idle → ⊥) → first_of_two a b ≡ a
first_some Idle b n = absurd (n refl)
first_some (SendsEdit r k) b n = refl
first_some (SendsAgain r k) b n = refl
first_some (SendsScript r k m) b n = refl
first_some SendsBeat b n = refl

pub first_due-least : (views : Text → View) (before : Text → ℕ) (xs : List Entry) (n : ℕ) → ((m : ℕ) → m < n → due_in views before xs m ≡ Idle) → (due_in views before xs n ≡ Idle → ⊥) → first_due views before xs ≡ due_in views before xs n
first_due-least views before [] n h d = absurd (d refl)
first_due-least views before (x ∷ xs) zero h d = first_some (due_at x.ro (views x.ro) (before x.ro)) (first_due views (set_order before x.ro (before x.ro + 1)) xs) d
first_due-least views before (x ∷ xs) (suc n) h d =
    first_idle (due_at x.ro (views x.ro) (before x.ro)) (first_due views (set_order before x.ro (before x.ro + 1)) xs) (h zero (omega arith))
    ∙ first_due-least views (set_order before x.ro (before x.ro + 1)) xs n (λ m l. h (suc m) (omega arith)) d

pub first_due-none : (views : Text → View) (before : Text → ℕ) (xs : List Entry) → ((m : ℕ) → m < length xs → due_in views before xs m ≡ Idle) → first_due views before xs ≡ Idle
first_due-none views before [] h = refl
first_due-none views before (x ∷ xs) h =
    first_idle (due_at x.ro (views x.ro) (before x.ro)) (first_due views (set_order before x.ro (before x.ro + 1)) xs) (h zero (omega arith))
    ∙ first_due-none views (set_order before x.ro (before x.ro + 1)) xs (λ m l. h (suc m) (omega arith))

-- journal number n is entry `many (take n journal) r` of its order r
pub due_in-entry : (views : Text → View) (before : Text → ℕ) (xs : List Entry) (n : ℕ) (y : Entry) → slice_get xs n ≡ Some y → due_in views before xs n ≡ due_at y.ro (views y.ro) (before y.ro + entry_count (take n xs) y.ro)
due_in-entry views before [] n y e = absurd (cc)
due_in-entry views before (x ∷ xs) zero y e = let x_is : x ≡ y = cc in subst (λ (z : Entry). due_at x.ro (views x.ro) (before x.ro) ≡ due_at z.ro (views z.ro) (before z.ro + 0)) x_is (ap (λ (k : ℕ). due_at x.ro (views x.ro) k) (omega arith))
due_in-entry views before (x ∷ xs) (suc n) y e =
    due_in-entry views (set_order before x.ro (before x.ro + 1)) xs n y e ∙ ap (λ (k : ℕ). due_at y.ro (views y.ro) k) (counts (same_id y.ro x.ro) refl)
  where
    counts : (b : Bool) → same_id y.ro x.ro ≡ b → (if b then before x.ro + 1 else before y.ro) + entry_count (take n xs) y.ro ≡ before y.ro + length (if b then x.edit ∷ entries y.ro (take n xs) else entries y.ro (take n xs))
    counts true s = let b_is : before y.ro ≡ before x.ro = ap before (same-true y.ro x.ro s) in omega arith
    counts false s = refl

-- what is due is what its order's view makes due
abbrev pub DueOk : (Text → View) → (Text → ℕ) → List Entry → ServerOut → Type 0
DueOk views before xs Idle = Unit {0}
DueOk views before xs SendsBeat = ⊥
DueOk views before xs (SendsEdit r k) = (k < before r + entry_count xs r) × ((views r ≡ In k false []) ⊎ (views r ≡ From k))
DueOk views before xs (SendsAgain r m) = views r ≡ In m true []
DueOk views before xs (SendsScript r k m) = (again : Bool) × (scripts : List ℕ) × (views r ≡ In m again (k ∷ scripts))

due_here : (views : Text → View) (before : Text → ℕ) (x : Entry) (xs : List Entry) (v : View) → views x.ro ≡ v → DueOk views before (x ∷ xs) (due_at x.ro v (before x.ro))
due_here views before x xs v e = grind (arith, nat_tests, same-self)

due_or : (views : Text → View) (before : Text → ℕ) (xs : List Entry) (a b : ServerOut) → DueOk views before xs a → DueOk views before xs b → DueOk views before xs (first_of_two a b)
due_or views before xs a b h k = grind arith

due_more : (views : Text → View) (before : Text → ℕ) (x : Entry) (xs : List Entry) (o : ServerOut) → DueOk views (set_order before x.ro (before x.ro + 1)) xs o → DueOk views before (x ∷ xs) o
due_more views before x xs o h = grind (arith, same-true, same-false)

pub due_ok : (views : Text → View) (before : Text → ℕ) (xs : List Entry) → DueOk views before xs (first_due views before xs)
due_ok views before [] = tt
due_ok views before (x ∷ xs) =
    due_or views before (x ∷ xs) (due_at x.ro (views x.ro) (before x.ro)) (first_due views (set_order before x.ro (before x.ro + 1)) xs)
    (due_here views before x xs (views x.ro) refl) (due_more views before x xs (first_due views (set_order before x.ro (before x.ro + 1)) xs) (due_ok views (set_order before x.ro (before x.ro + 1)) xs))
