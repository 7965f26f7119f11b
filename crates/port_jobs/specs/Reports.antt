-- What a worker reports of a connection that was accepted.
use Rattle.std.specs.Prelude.{◌≡◌, ℕ, ◌≤◌, ◌⊎◌, List, Option, Some, None, slice_get}
use Rattle.mos_fields.specs.Characters.{Text}
use Rattle.mos_io.specs.Bytes.{Takes}
use Rattle.mos_io.specs.Counts.{Rose}
use Rattle.port_events.specs.declared.answer.PortAnswer.{PortAnswer}
use Rattle.port_events.specs.declared.event.PortEvent.{PortEvent}
use Rattle.port_session.specs.Answering.{Accepted, Sides, sides}
use Rattle.port_session.specs.declared.end.End.{End}
use Rattle.port_session.specs.declared.end.End.TheVariants.{Closed, Truncated, BadMessage, ReadFault, WriteFault, Budget, Stale, Unasked, Stopped, NoMemory}
use Rattle.port_session.specs.declared.port.Port.{Port}
use Rattle.shared_machine.specs.declared.entry.Entry.{Entry}
use Rattle.port_dialing.specs.Ports.{at_link}
use Rattle.port_fronts.specs.Fronts.{before}
use Rattle.port_looking.specs.Looking.{Looks}
use Rattle.port_jobs.specs.Ports.{at_device}

-- The connection was served at the port of the device that was found, and that device is reported. `kept` are the bytes
-- that were read to find it and weren't asked for again.
pub record AtDevice {M : Type 0} (steps : M → PortEvent → PortAnswer → M → Type 0) (refusal : M → M → Type 0) (decks_left : M → ℕ) (start : M) (by : ℕ) (seen later : List (Entry PortEvent PortAnswer)) (p : Port) (names : List Text) (link budget : ℕ) (was now : Sides) (found : Option ℕ) (end : End) : Type 0 where
  pub device : ℕ
  pub found_is : found ≡ Some device
  pub mos : Text
  pub read : List ℕ
  pub left : Option (List ℕ)
  pub kept : List ℕ
  pub took : Takes was.left left read
  pub looks : Looks names left budget read device
  pub named : slice_get names device ≡ Some mos
  pub accepted : Accepted steps refusal decks_left start by seen later (at_device p link device mos) budget was (sides (before kept now.left) now.source_faults now.written now.sink_faults) end

-- why no device was found: a read failed, or memory ran out
abbrev pub NotFound : ℕ → ℕ → End → Type 0
NotFound f f' ReadFault = Rose f f'
NotFound f f' NoMemory = Unit {0}
NotFound f f' Closed = ⊥
NotFound f f' (Truncated k) = ⊥
NotFound f f' (BadMessage k c) = ⊥
NotFound f f' WriteFault = ⊥
NotFound f f' Budget = ⊥
NotFound f f' Stale = ⊥
NotFound f f' Unasked = ⊥
NotFound f f' Stopped = ⊥

-- no device was found, and none is reported: nothing was written, and the pass gained no entry
pub record AtNone (seen later : List (Entry PortEvent PortAnswer)) (was now : Sides) (found : Option ℕ) (end : End) : Type 0 where
  pub found_is : found ≡ None
  pub read : List ℕ
  pub took : Takes was.left now.left read
  pub rises : was.source_faults ≤ now.source_faults
  pub unseen : later ≡ seen
  pub unwritten : now.written ≡ was.written
  pub unfailed : now.sink_faults ≡ was.sink_faults
  pub cause : NotFound was.source_faults now.source_faults end

-- What an accepted connection came to: it was served at the port as it is, or, where the devices have names, at that of the
-- device that it belongs to, unless none could be found. `found` is the device that is reported.
abbrev pub IsServed : {M : Type 0} (steps : M → PortEvent → PortAnswer → M → Type 0) (refusal : M → M → Type 0) (decks_left : M → ℕ) (start : M) (by : ℕ) (seen later : List (Entry PortEvent PortAnswer)) (p : Port) → Option (List Text) → (link budget : ℕ) (was now : Sides) (found : Option ℕ) (end : End) → Type 0
IsServed steps refusal decks_left start by seen later p None link budget was now found end = (found ≡ None) × Accepted steps refusal decks_left start by seen later (at_link p link) budget was now end
IsServed steps refusal decks_left start by seen later p (Some names) link budget was now found end =
    AtDevice steps refusal decks_left start by seen later p names link budget was now found end ⊎ AtNone seen later was now found end

-- ---- of a device that is known

-- the connection was served at the port of this device
pub record AtKnown {M : Type 0} (steps : M → PortEvent → PortAnswer → M → Type 0) (refusal : M → M → Type 0) (decks_left : M → ℕ) (start : M) (by : ℕ) (seen later : List (Entry PortEvent PortAnswer)) (p : Port) (names : List Text) (device link budget : ℕ) (was now : Sides) (found : Option ℕ) (end : End) : Type 0 where
  pub found_is : found ≡ Some device
  pub mos : Text
  pub kept : List ℕ
  pub named : slice_get names device ≡ Some mos
  pub accepted : Accepted steps refusal decks_left start by seen later (at_device p link device mos) budget was (sides (before kept now.left) now.source_faults now.written now.sink_faults) end

-- there was no memory for the device's name
pub record AtUnnamed (seen later : List (Entry PortEvent PortAnswer)) (was now : Sides) (found : Option ℕ) (end : End) : Type 0 where
  pub found_is : found ≡ None
  pub unseen : later ≡ seen
  pub same : now ≡ was
  pub cause : end ≡ NoMemory
