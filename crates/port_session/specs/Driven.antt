-- What a connection that this end opened comes to.
use Rattle.std.specs.Prelude.{◌≡◌, ℕ, ◌+◌, ◌≤◌, ◌⊎◌, List, [], ◌∷◌, ◌++◌, length, Option, Result, Ok, Err}
use Rattle.mos_codec.specs.Codec.{encoding}
use Rattle.mos_fields.specs.declared.time.MosTime.{MosTime}
use Rattle.mos_io.specs.Bytes.{Appends}
use Rattle.mos_io.specs.Counts.{Rose}
use Rattle.mos_io.specs.Paces.{TakesPaces}
use Rattle.mos_io.specs.declared.pacer.Pace.{Pace}
use Rattle.mos_values.specs.Sound.{IsSound}
use Rattle.mos_values.specs.declared.message.Message.{Message}
use Rattle.port_events.specs.declared.answer.PortAnswer.{PortAnswer}
use Rattle.port_events.specs.declared.event.PortEvent.{PortEvent}
use Rattle.port_events.specs.declared.event.What.{What}
use Rattle.port_events.specs.declared.event.What.TheVariants.{EndedOut}
use Rattle.shared_machine.specs.declared.entry.Entry.{Entry}
use Rattle.shared_machine.specs.History.{StartsWith}
use Rattle.port_session.specs.Calls.{Gained}
use Rattle.port_session.specs.Driving.{Act, Drives, calls_of, bytes_of, read_of, paces_of}
use Rattle.port_session.specs.Events.{event}
use Rattle.port_session.specs.Messages.{own}
use Rattle.port_session.specs.Reading.{InletReads, Halts}
use Rattle.port_session.specs.declared.end.End.{End}
use Rattle.port_session.specs.declared.end.End.TheVariants.{Closed, Truncated, BadMessage, ReadFault, WriteFault, Budget, Stale, Unasked, Stopped, NoMemory}
use Rattle.port_session.specs.declared.inlet.Inlet.{Inlet}
use Rattle.port_session.specs.declared.port.Port.{Port}
use Rattle.port_session.specs.declared.stage.At.{At}
use Rattle.port_session.specs.declared.stage.Stage.{Stage}
use Rattle.port_session.specs.declared.stage.Stage.TheVariants.{Begins, Ready, Writes, Awaits, Hears, Rests, Beats, Over}

-- what is seen of a connection's source, sink, pacer and clock
pub record Reach : Type 0 where
  pub left : Option (List ℕ)
  pub source_faults : ℕ
  pub written : Option (List ℕ)
  pub sink_faults : ℕ
  pub paces : Option (List Pace)
  pub stops : ℕ
  pub time : Option MosTime

abbrev pub reach : Option (List ℕ) → ℕ → Option (List ℕ) → ℕ → Option (List Pace) → ℕ → Option MosTime → Reach
reach l f k n paces stops time = record { left = l; source_faults = f; written = k; sink_faults = n; paces = paces; stops = stops; time = time }

-- ---- stages

-- only these ends come of a stage; Stopped only where the count of stops rose
abbrev pub OverBy : End → ℕ → ℕ → Type 0
OverBy Stale n m = Unit {0}
OverBy Unasked n m = Unit {0}
OverBy Stopped n m = Rose n m
OverBy Closed n m = ⊥
OverBy (Truncated k) n m = ⊥
OverBy (BadMessage k c) n m = ⊥
OverBy ReadFault n m = ⊥
OverBy WriteFault n m = ⊥
OverBy Budget n m = ⊥
OverBy NoMemory n m = ⊥

-- what is known at a stage, where the count of stops was n and is m
abbrev pub MayStand : Stage → ℕ → ℕ → Type 0
MayStand (Over end) n m = OverBy end n m
MayStand Begins n m = Unit {0}
MayStand Ready n m = Unit {0}
MayStand (Writes w) n m = Unit {0}
MayStand Awaits n m = Unit {0}
MayStand (Hears e) n m = IsSound e.message
MayStand Rests n m = Unit {0}
MayStand Beats n m = Unit {0}

-- As many messages were read as were written, but for the one whose answer is awaited; Dialed alone may be told before
-- the first is written.
abbrev pub IsCounted : Stage → ℕ → ℕ → Type 0
IsCounted Awaits written read = written ≡ read + 1
IsCounted Begins written read = written ≡ read
IsCounted Ready written read = written ≡ read
IsCounted (Writes w) written read = written ≡ read
IsCounted (Hears e) written read = written ≡ read
IsCounted Rests written read = written ≡ read
IsCounted Beats written read = written ≡ read
IsCounted (Over end) written read = written ≡ read

-- an event was told, and the stage is the one after its answer
pub record ToldOn {M : Type 0} (steps : M → PortEvent → PortAnswer → M → Type 0) (refusal : M → M → Type 0) (decks_left : M → ℕ) (start : M) (by : ℕ) (seen later : List (Entry PortEvent PortAnswer)) (p : Port) (what : What) (to : PortAnswer → Stage) (stage : Stage) : Type 0 where
  pub answer : PortAnswer
  pub gained : Gained steps refusal decks_left start by seen later ((event p what, answer) ∷ [])
  pub is : stage ≡ to answer

-- what was done so far
pub record Driving {M : Type 0} (steps : M → PortEvent → PortAnswer → M → Type 0) (refusal : M → M → Type 0) (decks_left : M → ℕ) (start : M) (by : ℕ) (seen later : List (Entry PortEvent PortAnswer)) (p : Port) (was now : Reach) (inlet : Inlet) (at : At) : Type 0 where
  pub acts : List Act
  pub drives : Drives p was.time Begins 0 acts at.stage at.number
  pub reads : InletReads was.left was.source_faults now.left now.source_faults inlet (read_of acts)
  pub gained : Gained steps refusal decks_left start by seen later (calls_of acts)
  pub wrote : Appends was.written now.written (bytes_of acts)
  pub paced : TakesPaces was.paces now.paces (paces_of acts)
  pub sink_rises : was.sink_faults ≤ now.sink_faults
  pub stops_rise : was.stops ≤ now.stops
  pub stands : MayStand at.stage was.stops now.stops
  pub numbered : IsCounted at.stage at.number (length (read_of acts))
  pub time : now.time ≡ was.time

-- ---- the end

-- an answer was awaited, and each whole message in the bytes read was told
pub record Cut (was now : Reach) (budget : ℕ) (acts : List Act) (stage : Stage) (end : End) : Type 0 where
  pub awaits : stage ≡ Awaits
  pub halts : Halts was.left was.source_faults now.left now.source_faults budget (read_of acts) end
  pub wrote : Appends was.written now.written (bytes_of acts)

-- this message couldn't be written whole
pub record Unwritten (p : Port) (was now : Reach) (budget : ℕ) (acts : List Act) (stage : Stage) (number : ℕ) : Type 0 where
  pub message : Message
  pub writes : stage ≡ Writes message
  pub halts : Halts was.left was.source_faults now.left now.source_faults budget (read_of acts) NoMemory
  pub part : List ℕ
  pub begins : StartsWith (encoding (own p (number + 1) message)) part
  pub wrote : Appends was.written now.written (bytes_of acts ++ part)
  pub rose : Rose was.sink_faults now.sink_faults

-- the hub or the pacer ended it, or memory ran out
pub record Broken (was now : Reach) (budget : ℕ) (acts : List Act) : Type 0 where
  pub halts : Halts was.left was.source_faults now.left now.source_faults budget (read_of acts) NoMemory
  pub wrote : Appends was.written now.written (bytes_of acts)

abbrev pub DrivenBy : Port → Reach → Reach → ℕ → List Act → Stage → ℕ → End → Type 0
DrivenBy p was now budget acts stage i Closed = Cut was now budget acts stage Closed
DrivenBy p was now budget acts stage i (Truncated n) = Cut was now budget acts stage (Truncated n)
DrivenBy p was now budget acts stage i (BadMessage n c) = Cut was now budget acts stage (BadMessage n c)
DrivenBy p was now budget acts stage i ReadFault = Cut was now budget acts stage ReadFault
DrivenBy p was now budget acts stage i Budget = Cut was now budget acts stage Budget
DrivenBy p was now budget acts stage i WriteFault = Unwritten p was now budget acts stage i
DrivenBy p was now budget acts stage i Stale = (stage ≡ Over Stale) × Broken was now budget acts
DrivenBy p was now budget acts stage i Unasked = (stage ≡ Over Unasked) × Broken was now budget acts
DrivenBy p was now budget acts stage i Stopped = (stage ≡ Over Stopped) × Broken was now budget acts × Rose was.stops now.stops
DrivenBy p was now budget acts stage i NoMemory = Broken was now budget acts

-- what the connection came to, up to its end event
pub record Driven {M : Type 0} (steps : M → PortEvent → PortAnswer → M → Type 0) (refusal : M → M → Type 0) (decks_left : M → ℕ) (start : M) (by : ℕ) (seen later : List (Entry PortEvent PortAnswer)) (p : Port) (budget : ℕ) (was now : Reach) (end : End) : Type 0 where
  pub acts : List Act
  pub stage : Stage
  pub number : ℕ
  pub drives : Drives p was.time Begins 0 acts stage number
  pub gained : Gained steps refusal decks_left start by seen later (calls_of acts)
  pub paced : TakesPaces was.paces now.paces (paces_of acts)
  pub source_rises : was.source_faults ≤ now.source_faults
  pub sink_rises : was.sink_faults ≤ now.sink_faults
  pub stops_rise : was.stops ≤ now.stops
  pub time : now.time ≡ was.time
  pub how : DrivenBy p was now budget acts stage number end

abbrev pub Step : {M : Type 0} (steps : M → PortEvent → PortAnswer → M → Type 0) (refusal : M → M → Type 0) (decks_left : M → ℕ) (start : M) (by : ℕ) (seen later : List (Entry PortEvent PortAnswer)) (p : Port) (was now : Reach) (inlet : Inlet) → Result At End → Type 0
Step steps refusal decks_left start by seen later p was now inlet (Ok at) = Driving steps refusal decks_left start by seen later p was now inlet at
Step steps refusal decks_left start by seen later p was now inlet (Err end) = Driven steps refusal decks_left start by seen later p inlet.budget was now end

-- the end event, which may be missing for want of memory alone
abbrev pub EndsOut : Port → List (PortEvent × PortAnswer) → End → Type 0
EndsOut p calls end = ((a : PortAnswer) × (calls ≡ (event p EndedOut, a) ∷ [])) ⊎ ((calls ≡ []) × (end ≡ NoMemory))

-- What a connection that this end opened came to: what was done, in order, the entries that the pass gained, what was
-- written, the paces taken, and why it ended.
pub record Opened {M : Type 0} (steps : M → PortEvent → PortAnswer → M → Type 0) (refusal : M → M → Type 0) (decks_left : M → ℕ) (start : M) (by : ℕ) (seen later : List (Entry PortEvent PortAnswer)) (p : Port) (budget : ℕ) (was now : Reach) (end : End) : Type 0 where
  pub acts : List Act
  pub stage : Stage
  pub number : ℕ
  pub last : List (PortEvent × PortAnswer)
  pub drives : Drives p was.time Begins 0 acts stage number
  pub gained : Gained steps refusal decks_left start by seen later (calls_of acts ++ last)
  pub ended : EndsOut p last end
  pub paced : TakesPaces was.paces now.paces (paces_of acts)
  pub source_rises : was.source_faults ≤ now.source_faults
  pub sink_rises : was.sink_faults ≤ now.sink_faults
  pub stops_rise : was.stops ≤ now.stops
  pub time : now.time ≡ was.time
  pub why : End
  pub how : DrivenBy p was now budget acts stage number why
  pub end_is : (end ≡ why) ⊎ ((end ≡ NoMemory) × (last ≡ []))
