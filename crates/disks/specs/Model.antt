-- What the calls of a disk do to its file, and what a crash may do between two syncs.
use Rattle.std.specs.Prelude.{◌≡◌, ◌⊎◌, ℕ, ◌+◌, ◌≤◌, max, List, ◌++◌, length, take, drop, Result, Ok, Err}
use Rattle.mos_io.specs.Counts.{Rose}
use Rattle.mos_io.specs.declared.source.Failed.{Failed}

-- the file with these bytes at this place, at its end at most
abbrev pub written : ℕ → List ℕ → List ℕ → List ℕ
written at bytes file = take at file ++ (bytes ++ drop (at + length bytes) file)

-- What a crash may leave of a file after a write of so many bytes at this place that isn't synced, whether it succeeded or
-- failed: any bytes in the range, and past the old end in any length up to the end written. Bytes outside stay.
pub record Torn (at n : ℕ) (old new : List ℕ) : Type 0 where
  pub before : take (length (take at old)) new ≡ take at old
  pub after : drop (at + n) new ≡ drop (at + n) old
  pub no_shorter : length old ≤ length new
  pub no_longer : length new ≤ max (length old) (at + n)

-- after a cut that isn't synced: it has happened or not
abbrev pub IsCutOrNot : ℕ → List ℕ → List ℕ → Type 0
IsCutOrNot to old new = (new ≡ old) ⊎ (new ≡ take to old)

-- each file that a crash may leave now is one that a crash might have left before, after a step
abbrev pub Follows : (List ℕ → List ℕ → Type 0) → (List ℕ → Type 0) → (List ℕ → Type 0) → Type 0
Follows step old new = (c : List ℕ) → new c → (d : List ℕ) × old d × step d c

-- a crash leaves no file that it might not have left before
abbrev pub LeavesNoOther : (List ℕ → Type 0) → (List ℕ → Type 0) → Type 0
LeavesNoOther old new = (c : List ℕ) → new c → old c

-- a crash leaves this file and no other
abbrev pub Only : List ℕ → (List ℕ → Type 0) → Type 0
Only file outcomes = (c : List ℕ) → outcomes c → c ≡ file

-- Time goes on: a crash since t might have left what it might have left before, or what it may leave now.
pub record Elapses (before now : ℕ) (past since : ℕ → List ℕ → Type 0) (may_leave : List ℕ → Type 0) : Type 0 where
  pub later : before ≤ now
  pub nothing_else : (t : ℕ) (c : List ℕ) → t ≤ before → since t c → past t c ⊎ may_leave c
  pub keeps : (t : ℕ) (c : List ℕ) → t ≤ before → past t c → since t c

-- A crash at any moment from the old disk to the new one, both included, leaves a file that has P.
pub record LeavesOnly {D : Type 0} (moment : D → ℕ) (left_since : D → ℕ → List ℕ → Type 0) (old new : D) (P : List ℕ → Type 0) : Type 0 where
  pub later : moment old ≤ moment new
  pub each : (c : List ℕ) → left_since new (moment old) c → P c
  -- for a run that began earlier
  pub before : (t : ℕ) (c : List ℕ) → t ≤ moment old → left_since new t c → left_since old t c ⊎ P c

-- The count of faults stays where the call succeeded, rises where it failed, and never falls.
pub record CountsFaults {T : Type 0} (before now : ℕ) (result : Result T Failed) : Type 0 where
  pub rises : before ≤ now
  pub ok : (x : T) → result ≡ Ok x → now ≡ before
  pub err : (e : Failed) → result ≡ Err e → Rose before now
