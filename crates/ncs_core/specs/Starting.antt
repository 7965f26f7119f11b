-- Why the server wasn't started.
use Rattle.std.specs.Prelude.{◌≡◌, ℕ, Bool, true, false, List, [], ◌++◌, take, slice_get, Option, Some, None}
use Rattle.mos_edits.specs.Entries.{Entry, Refusal, acceptance, IsAccepted}
use Rattle.mos_io.specs.Counts.{Rose}
use Rattle.rundown_log.specs.Keeping.{AreKept, Certainty, all_certain}
use Rattle.rundown_log.specs.declared.keeper.KeepFault.{KeepFault}
use Rattle.rundown_log.specs.declared.keeper.KeepFault.TheVariants as keeping
use Rattle.ncs_core.specs.declared.fault.CommandFault.{CommandFault}
use Rattle.ncs_core.specs.declared.fault.CommandFault.TheVariants as command
use Rattle.ncs_core.specs.declared.fault.StartCause.{StartCause}
use Rattle.ncs_core.specs.declared.fault.StartCause.TheVariants.{StoreFault, BadEntry, NoMemory}

-- an edit isn't accepted
abbrev pub IsRefused : Option Refusal → Type 0
IsRefused None = ⊥
IsRefused (Some why) = Unit {0}

-- entry `n`, counted from 0, is the first that isn't accepted after those before it
pub record IsFirstRefused (entries : List Entry) (n : ℕ) : Type 0 where
  pub entry : Entry
  pub there : slice_get entries n ≡ Some entry
  pub before : IsAccepted [] (take n entries)
  pub refused : IsRefused (acceptance (take n entries) entry)

-- that is so of the entries that the keeper loaded
abbrev pub IsBadEntry : Option (List Entry) → ℕ → Type 0
IsBadEntry kept n = (entries : List Entry) × AreKept kept entries × IsFirstRefused entries n

-- The keeper's fault count rose; entry `n` is the first that isn't accepted; or memory ran out.
abbrev pub IsStartCause : Option (List Entry) → ℕ → ℕ → StartCause → Type 0
IsStartCause kept faults faults_now StoreFault = Rose faults faults_now
IsStartCause kept faults faults_now (BadEntry n) = IsBadEntry kept n
IsStartCause kept faults faults_now NoMemory = Unit {0}

-- the same where entries are added that were loaded
abbrev pub IsEntryCause : List Entry → StartCause → Type 0
IsEntryCause entries StoreFault = ⊥
IsEntryCause entries (BadEntry n) = IsFirstRefused entries n
IsEntryCause entries NoMemory = Unit {0}

-- the cause where entry `n` was refused, and where a load failed
abbrev pub entry_cause_of : ℕ → CommandFault → StartCause
entry_cause_of n command.NoMemory = NoMemory
entry_cause_of n fault = BadEntry n

abbrev pub load_cause_of : KeepFault → StartCause
load_cause_of keeping.Failed = StoreFault
load_cause_of keeping.NoMemory = NoMemory

-- ---- what of the keeper is known

-- the entries that a keeper keeps begin with the journal
abbrev pub IsFront : Option (List Entry) → List Entry → Type 0
IsFront None journal = Unit {0}
IsFront (Some kept) journal = (rest : List Entry) × (kept ≡ journal ++ rest)

-- a journal that need not be loaded again
pub record IsLoadedFront (kept : Option (List Entry)) (journal : List Entry) : Type 0 where
  pub accepted : IsAccepted [] journal
  pub front : IsFront kept journal

-- While the server runs, the keeper keeps the journal and nothing is in doubt. Once an append of this run failed, the entries
-- that stand for certain are the journal, and those that are kept begin with it.
abbrev pub AreHeld : Bool → Option (List Entry) → Certainty → List Entry → Type 0
AreHeld stopped None c journal = Unit {0}
AreHeld true (Some kept) c journal = (c.certain ≡ Some journal) × IsFront (Some kept) journal
AreHeld false (Some kept) c journal = (kept ≡ journal) × (c ≡ all_certain (Some journal))

-- a journal of accepted entries, which the keeper holds
pub record IsKept (stopped : Bool) (kept : Option (List Entry)) (c : Certainty) (journal : List Entry) : Type 0 where
  pub accepted : IsAccepted [] journal
  pub held : AreHeld stopped kept c journal
