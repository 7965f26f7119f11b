-- The keeper in memory.
use Rattle.std.specs.Prelude.{◌≡◌, ℕ, List, [], ◌∷◌, ◌++◌, Bool, true, false, Option, Some, None, if◌then◌else◌, ◌||◌, ◌==◌, Result, Ok, Err}
use Rattle.std.specs.List.{list_any}
use Rattle.mos_edits.specs.Entries.{Entry}
use Rattle.mos_io.specs.Counts.{counted}
use Rattle.rundown_log.specs.Keeping.{Certainty}
use Rattle.rundown_log.specs.declared.keeper.KeepFault.{KeepFault}
use Rattle.rundown_log.specs.declared.keeper.KeepFault.TheVariants.{Failed, NoMemory}

-- the entry of an append that failed, and whether it stands
pub record Doubt : Type 0 where
  pub entry : Entry
  pub stands : Bool

-- The entries that stand; one of which that may still be settled; which appends fail, and whether the entry of a failed one
-- stands at first; whether the next append fails; the number of the next append and of the faults so far.
pub record MemoryKeeper : Type 0 where
  pub certain : List Entry
  pub doubtful : Option Doubt
  pub fails : List ℕ
  pub stands : Bool
  pub failing : Bool
  pub call : ℕ
  pub faults : ℕ

-- the entries that are kept: the one in doubt is, as long as it stands
abbrev pub kept_with : Option Doubt → List Entry → List Entry
kept_with None entries = entries
kept_with (Some d) entries = if d.stands then entries ++ d.entry ∷ [] else entries

abbrev pub kept : MemoryKeeper → List Entry
kept k = kept_with k.doubtful k.certain

-- the entry in doubt
abbrev pub doubted : Option Doubt → Option Entry
doubted None = None
doubted (Some d) = Some d.entry

abbrev pub certainty : MemoryKeeper → Certainty
certainty k = record { certain = Some k.certain; doubtful = doubted k.doubtful }

-- the entries apart from the rest of the keeper
pub record HeldEntries : Type 0 where
  pub certain : List Entry
  pub doubtful : Option Doubt

abbrev pub held_kept : HeldEntries → List Entry
held_kept h = kept_with h.doubtful h.certain

abbrev pub doubt_of : Bool → Option Entry → Option Doubt
doubt_of stands None = None
doubt_of stands (Some e) = Some (record { entry = e; stands = stands })

-- the next append fails
abbrev pub fails_next : MemoryKeeper → Bool
fails_next k = k.failing || list_any (λ n. n == k.call) k.fails

-- after an append that failed
abbrev pub failed : MemoryKeeper → Entry → MemoryKeeper
failed k e = record { certain = kept k; doubtful = Some (record { entry = e; stands = k.stands }); fails = k.fails; stands = k.stands; failing = false; call = counted k.call; faults = counted k.faults }

-- after one that didn't
abbrev pub appended : MemoryKeeper → Entry → MemoryKeeper
appended k e = record k { certain = kept k ++ e ∷ []; doubtful = None; call = counted k.call }

-- Exactly the chosen appends fail; want of memory changes nothing.
abbrev pub IsAppended : MemoryKeeper → Entry → Result (Unit {0}) KeepFault → MemoryKeeper → Type 0
IsAppended k e (Ok done) m = (m ≡ appended k e) × (fails_next k ≡ false)
IsAppended k e (Err Failed) m = (m ≡ failed k e) × (fails_next k ≡ true)
IsAppended k e (Err NoMemory) m = m ≡ k

-- After a load the entries that are kept stand, and no other does.
abbrev pub IsLoaded : MemoryKeeper → MemoryKeeper → Type 0
IsLoaded k m = m ≡ record k { certain = kept k; doubtful = None }

-- the entry in doubt stands or doesn't from now on
abbrev pub settled_doubt : Bool → Option Doubt → Option Doubt
settled_doubt stands None = None
settled_doubt stands (Some d) = Some (record { entry = d.entry; stands = stands })

abbrev pub settled : MemoryKeeper → Bool → MemoryKeeper
settled k stands = record k { doubtful = settled_doubt stands k.doubtful }
