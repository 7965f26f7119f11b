-- What a command answers, and what it leaves.
use Rattle.std.specs.Prelude.{◌≡◌, ℕ, List, ◌⊎◌, Bool, true, false, Option, Some, None, Result, Ok, Err}
use Rattle.mos_edits.specs.KeyedLists.{ActFault}
use Rattle.mos_edits.specs.Entries.{Entry, Refusal, acceptance}
use Rattle.mos_io.specs.Counts.{Rose}
use Rattle.mos_machines.specs.Messages.{Status}
use Rattle.mos_machines.specs.Steps.{ServerState, ServerEvent, StepAnswer, ServerStep}
use Rattle.rundown_log.specs.Keeping.{Keeps}
use Rattle.rundown_log.specs.declared.keeper.KeepFault.{KeepFault}
use Rattle.rundown_log.specs.declared.keeper.KeepFault.TheVariants as keeping
use Rattle.ncs_core.specs.declared.fault.CommandFault.{CommandFault}
use Rattle.ncs_core.specs.declared.fault.CommandFault.TheVariants.{Stopped, Missing, AlreadyThere, Full, StoreFault, NoMemory}

-- the status that the server tells for a fault; want of memory has none
abbrev pub fault_status : CommandFault → Option Status
fault_status Stopped = Some Status.Stopped
fault_status (Missing id) = Some (Status.Faulty (ActFault.Missing id))
fault_status (AlreadyThere id) = Some (Status.Faulty (ActFault.AlreadyThere id))
fault_status (Full units) = Some (Status.Full units)
fault_status StoreFault = Some Status.StoreFault
fault_status NoMemory = None

-- The server made the step of a command and told this status, or made none.
abbrev pub StepsTo : ServerState → Entry → Option Status → ServerState → Type 0
StepsTo s e (Some status) t = ServerStep s (ServerEvent.Command e) (StepAnswer.Told status) t
StepsTo s e None t = t ≡ s

abbrev pub IsCommandStep : ServerState → Entry → Result (Unit {0}) CommandFault → ServerState → Type 0
IsCommandStep s e (Ok done) t = StepsTo s e (Some Status.Okay) t
IsCommandStep s e (Err fault) t = StepsTo s e (fault_status fault) t

-- Why it is answered so: an append of this run failed before; or else the edit isn't accepted; or else the keeper's
-- fault count, which is `faults` now, rose. Memory may run out in place of all but `Stopped`.
abbrev pub HasCause : ServerState → Entry → ℕ → Result (Unit {0}) CommandFault → Type 0
HasCause s e faults (Ok done) = (s.stopped ≡ false) × (acceptance s.journal e ≡ None)
HasCause s e faults (Err Stopped) = s.stopped ≡ true
HasCause s e faults (Err (Missing id)) = (s.stopped ≡ false) × (acceptance s.journal e ≡ Some (Refusal.Faulty (ActFault.Missing id)))
HasCause s e faults (Err (AlreadyThere id)) = (s.stopped ≡ false) × (acceptance s.journal e ≡ Some (Refusal.Faulty (ActFault.AlreadyThere id)))
HasCause s e faults (Err (Full units)) = (s.stopped ≡ false) × (acceptance s.journal e ≡ Some (Refusal.Full units))
HasCause s e faults (Err StoreFault) = (s.stopped ≡ false) × (acceptance s.journal e ≡ None) × Rose s.faults faults
HasCause s e faults (Err NoMemory) = s.stopped ≡ false

-- What stays as it was: with Ok the keeper keeps one more entry, and after a failed append it may. That makes the
-- server stopped and changes nothing else of its state; after each other fault all is as it was.
abbrev pub LeavesAfter : ServerState → ServerState → Option (List Entry) → Option (List Entry) → Entry → Result (Unit {0}) CommandFault → Type 0
LeavesAfter s t kept kept_now e (Ok done) = Keeps kept kept_now e
LeavesAfter s t kept kept_now e (Err StoreFault) = (t ≡ record s { stopped = true; faults = t.faults }) × ((kept_now ≡ kept) ⊎ Keeps kept kept_now e)
LeavesAfter s t kept kept_now e (Err fault) = (t ≡ s) × (kept_now ≡ kept)

-- What the keeper makes of the append, by its own account; where none was made it is as it was. A command for which memory
-- ran out may have asked the keeper or not.
abbrev pub LeavesKeeper : {K : Type 0} → (K → Entry → Result (Unit {0}) KeepFault → K → Type 0) → K → K → Entry → Result (Unit {0}) CommandFault → Type 0
LeavesKeeper appended k m e (Ok done) = appended k e (Ok done) m
LeavesKeeper appended k m e (Err StoreFault) = appended k e (Err keeping.Failed) m
LeavesKeeper appended k m e (Err NoMemory) = (m ≡ k) ⊎ appended k e (Err keeping.NoMemory) m
LeavesKeeper appended k m e (Err fault) = m ≡ k

-- what becomes of a keeper's fault
abbrev pub is_failed : KeepFault → Bool
is_failed keeping.Failed = true
is_failed keeping.NoMemory = false

abbrev pub command_fault_of : KeepFault → CommandFault
command_fault_of keeping.Failed = StoreFault
command_fault_of keeping.NoMemory = NoMemory
