-- What came of the listeners, where each worker has a thread of its own.
use Rattle.std.specs.Prelude.{◌⊎◌, ℕ, ◌≤◌, Option, Some, None}
use Rattle.mos_io.specs.Counts.{Rose}
use Rattle.port_links.specs.Links.{Fewer, NoneComes}
use Rattle.port_doors.specs.declared.door.DoorEnd.{DoorEnd}
use Rattle.port_doors.specs.declared.door.DoorEnd.TheVariants.{Closed, ListenFault, NoWorker, NoMemory}
use Rattle.thread_doors.specs.declared.listeners.ServerListeners.{ServerListeners}
use Rattle.thread_doors.specs.declared.listeners.GateListeners.{GateListeners}

-- what is seen of a listener: the connections that are still to come, where that is observable, and the faults that it
-- counted
pub record Listening : Type 0 where
  pub coming : Option ℕ
  pub faults : ℕ

-- what is seen of two listeners or three, and the workers that couldn't be started
pub record AllListening : Type 0 where
  pub upper : Listening
  pub lower : Listening
  pub editor : Option Listening
  pub refused : ℕ

abbrev pub listening_of : {X : Type 0} → (X → Option ℕ) → (X → ℕ) → X → Listening
listening_of coming faults l = record { coming = coming l; faults = faults l }

-- of a server's three
abbrev pub server_listening : {X : Type 0} → (X → Option ℕ) → (X → ℕ) → ServerListeners X → AllListening
server_listening coming faults l = record {
  upper = listening_of coming faults l.upper;
  lower = listening_of coming faults l.lower;
  editor = Some (listening_of coming faults l.editor);
  refused = l.refused;
}

-- of a gateway's two
abbrev pub gate_listening : {X : Type 0} → (X → Option ℕ) → (X → ℕ) → GateListeners X → AllListening
gate_listening coming faults l = record {
  upper = listening_of coming faults l.upper;
  lower = listening_of coming faults l.lower;
  editor = None;
  refused = l.refused;
}

-- connections came, and none is still to come
abbrev pub IsHeardOut : Listening → Listening → Type 0
IsHeardOut was now = ((links : ℕ) × Fewer was.coming now.coming links) × NoneComes now.coming

-- a relation of a listener before and after, of one that is perhaps there
abbrev pub OfEditor : (Listening → Listening → Type 0) → Type 0 → Option Listening → Option Listening → Type 0
OfEditor by absent None None = absent
OfEditor by absent None (Some now) = ⊥
OfEditor by absent (Some was) None = ⊥
OfEditor by absent (Some was) (Some now) = by was now

-- no listener's count of faults fell, nor that of the workers that couldn't be started
pub record CountsRise (was now : AllListening) : Type 0 where
  pub upper : was.upper.faults ≤ now.upper.faults
  pub lower : was.lower.faults ≤ now.lower.faults
  pub editor : OfEditor (λ a b. a.faults ≤ b.faults) (Unit {0}) was.editor now.editor
  pub refused : was.refused ≤ now.refused

-- The causes of the ends. Closed: connections came at each listener, and none is still to come at any. ListenFault: a
-- listener counted a fault. NoWorker: one worker more, at least, couldn't be started for want of a thread.
abbrev pub CausedByThreads : AllListening → AllListening → DoorEnd → Type 0
CausedByThreads was now Closed =
    IsHeardOut was.upper now.upper × IsHeardOut was.lower now.lower × OfEditor IsHeardOut (Unit {0}) was.editor now.editor
CausedByThreads was now ListenFault =
    Rose was.upper.faults now.upper.faults
    ⊎ (Rose was.lower.faults now.lower.faults ⊎ OfEditor (λ a b. Rose a.faults b.faults) ⊥ was.editor now.editor)
CausedByThreads was now NoWorker = Rose was.refused now.refused
CausedByThreads was now NoMemory = Unit {0}
