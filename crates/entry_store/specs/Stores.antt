-- Entries with the keeper that acknowledged them, and what keeping one more makes of both.
use Rattle.std.specs.Prelude.{◌≡◌, ℕ, ◌≤◌, List, [], ◌∷◌, ◌++◌, ◌⊎◌, Bool, true, false, Option, Some, None, Result, Ok, Err}
use Rattle.mos_edits.specs.Entries.{Entry}
use Rattle.mos_io.specs.Counts.{Rose}
use Rattle.rundown_log.specs.Keeping.{Keeps}
use Rattle.rundown_log.specs.Memory.{MemoryKeeper}
use Rattle.rundown_log.specs.declared.keeper.KeepFault.{KeepFault}
use Rattle.rundown_log.specs.declared.keeper.KeepFault.TheVariants.{Failed, NoMemory}

-- `entries`: those that the keeper acknowledged. `stopped`: an append failed since they were loaded. `faults`: the keeper's
-- fault count. `kept`: the entries that it keeps, where these are observable.
pub record StoreTables (K : Type 0) : Type 0 where
  pub entries : List Entry
  pub stopped : Bool
  pub faults : ℕ
  pub keeper : K
  pub kept : Option (List Entry)

-- An entry was kept: it stands at the end.
pub record IsStored {K : Type 0} (appended : K → Entry → Result (Unit {0}) KeepFault → K → Type 0) (s t : StoreTables K) (e : Entry) : Type 0 where
  pub entries : t.entries ≡ s.entries ++ e ∷ []
  pub running : t.stopped ≡ s.stopped
  pub rises : s.faults ≤ t.faults
  pub keeps : Keeps s.kept t.kept e
  pub keeper : appended s.keeper e (Ok tt) t.keeper

-- Its append failed: it may stand at the keeper's end, and the store is stopped.
pub record IsDoubted {K : Type 0} (appended : K → Entry → Result (Unit {0}) KeepFault → K → Type 0) (s t : StoreTables K) (e : Entry) : Type 0 where
  pub entries : t.entries ≡ s.entries
  pub stopped : t.stopped ≡ true
  pub rises : s.faults ≤ t.faults
  pub rose : Rose s.faults t.faults
  pub keeps : (t.kept ≡ s.kept) ⊎ Keeps s.kept t.kept e
  pub keeper : appended s.keeper e (Err Failed) t.keeper

-- Memory ran out before it was kept; the keeper was asked or wasn't.
pub record IsSpared {K : Type 0} (appended : K → Entry → Result (Unit {0}) KeepFault → K → Type 0) (s t : StoreTables K) (e : Entry) : Type 0 where
  pub entries : t.entries ≡ s.entries
  pub running : t.stopped ≡ s.stopped
  pub faults : t.faults ≡ s.faults
  pub kept : t.kept ≡ s.kept
  pub keeper : (t.keeper ≡ s.keeper) ⊎ appended s.keeper e (Err NoMemory) t.keeper

-- what keeping an entry did, answered so
abbrev pub IsKeptBy : {K : Type 0} → (K → Entry → Result (Unit {0}) KeepFault → K → Type 0) → StoreTables K → StoreTables K → Entry → Result (Unit {0}) KeepFault → Type 0
IsKeptBy appended s t e (Ok done) = IsStored appended s t e
IsKeptBy appended s t e (Err Failed) = IsDoubted appended s t e
IsKeptBy appended s t e (Err NoMemory) = IsSpared appended s t e

-- The keeper's fault count rose where the entries weren't loaded; or memory ran out.
abbrev pub IsLoadFault : ℕ → ℕ → KeepFault → Type 0
IsLoadFault faults faults_now Failed = Rose faults faults_now
IsLoadFault faults faults_now NoMemory = Unit {0}

-- a keeper in memory without entries, none of whose appends fails
abbrev pub empty_keeper : MemoryKeeper
empty_keeper = record { certain = []; doubtful = None; fails = []; stands = false; failing = false; call = 0; faults = 0 }

abbrev pub empty_store : StoreTables MemoryKeeper
empty_store = record { entries = []; stopped = false; faults = 0; keeper = empty_keeper; kept = Some [] }
