-- What a connection that this end accepted comes to.
use Rattle.std.specs.Prelude.{◌≡◌, ℕ, ◌≤◌, ◌⊎◌, Bool, false, List, [], ◌∷◌, ◌++◌, Option, Result, Ok, Err}
use Rattle.mos_io.specs.Bytes.{Appends}
use Rattle.mos_values.specs.declared.message.Envelope.{Envelope}
use Rattle.port_events.specs.declared.answer.PortAnswer.{PortAnswer}
use Rattle.port_events.specs.declared.event.PortEvent.{PortEvent}
use Rattle.port_events.specs.declared.event.What.TheVariants.{EndedIn}
use Rattle.shared_machine.specs.declared.entry.Entry.{Entry}
use Rattle.port_session.specs.Calls.{Gained}
use Rattle.port_session.specs.Events.{event}
use Rattle.port_session.specs.Reading.{InletReads, Halts}
use Rattle.port_session.specs.Serving.{Call, Serves, Fails}
use Rattle.port_session.specs.declared.end.End.{End}
use Rattle.port_session.specs.declared.end.End.TheVariants.{Closed, Truncated, BadMessage, ReadFault, WriteFault, Budget, Stale, Unasked, Stopped, NoMemory}
use Rattle.port_session.specs.declared.inlet.Inlet.{Inlet}
use Rattle.port_session.specs.declared.port.Port.{Port}

-- what is seen of a connection's source and sink
pub record Sides : Type 0 where
  pub left : Option (List ℕ)
  pub source_faults : ℕ
  pub written : Option (List ℕ)
  pub sink_faults : ℕ

abbrev pub sides : Option (List ℕ) → ℕ → Option (List ℕ) → ℕ → Sides
sides l f k n = record { left = l; source_faults = f; written = k; sink_faults = n }

-- the messages handed out so far were served
pub record Going {M : Type 0} (steps : M → PortEvent → PortAnswer → M → Type 0) (refusal : M → M → Type 0) (decks_left : M → ℕ) (start : M) (by : ℕ) (seen later : List (Entry PortEvent PortAnswer)) (p : Port) (was now : Sides) (inlet : Inlet) (on : Bool) : Type 0 where
  pub served : List Envelope
  pub calls : List Call
  pub out : List ℕ
  pub reads : InletReads was.left was.source_faults now.left now.source_faults inlet served
  pub gained : Gained steps refusal decks_left start by seen later calls
  pub wrote : Appends was.written now.written out
  pub serves : Serves p false served calls out on
  pub rises : was.sink_faults ≤ now.sink_faults

-- All messages but the last were served; with the last the connection ends.
pub record LastFails (p : Port) (served : List Envelope) (calls : List Call) (out : List ℕ) (n n' : ℕ) (end : End) : Type 0 where
  pub before : List Envelope
  pub last : Envelope
  pub first_calls : List Call
  pub last_calls : List Call
  pub first_out : List ℕ
  pub last_out : List ℕ
  pub on : Bool
  pub messages : served ≡ before ++ last ∷ []
  pub serves : Serves p false before first_calls first_out on
  pub fails : Fails p on last last_calls last_out n n' end
  pub calls_are : calls ≡ first_calls ++ last_calls
  pub out_is : out ≡ first_out ++ last_out

-- all messages were served
pub record AllServed (p : Port) (was now : Sides) (budget : ℕ) (served : List Envelope) (calls : List Call) (out : List ℕ) (end : End) : Type 0 where
  pub on : Bool
  pub serves : Serves p false served calls out on
  pub halts : Halts was.left was.source_faults now.left now.source_faults budget served end

-- the messages with the one that fails are the first of the bytes read
pub record OneFails (p : Port) (was now : Sides) (budget : ℕ) (served : List Envelope) (calls : List Call) (out : List ℕ) (end : End) : Type 0 where
  pub halts : Halts was.left was.source_faults now.left now.source_faults budget served NoMemory
  pub last : LastFails p served calls out was.sink_faults now.sink_faults end

abbrev pub AnsweredBy : Port → Sides → Sides → ℕ → List Envelope → List Call → List ℕ → End → Type 0
AnsweredBy p was now budget served calls out Closed = AllServed p was now budget served calls out Closed
AnsweredBy p was now budget served calls out (Truncated n) = AllServed p was now budget served calls out (Truncated n)
AnsweredBy p was now budget served calls out (BadMessage n c) = AllServed p was now budget served calls out (BadMessage n c)
AnsweredBy p was now budget served calls out ReadFault = AllServed p was now budget served calls out ReadFault
AnsweredBy p was now budget served calls out Budget = AllServed p was now budget served calls out Budget
AnsweredBy p was now budget served calls out WriteFault = OneFails p was now budget served calls out WriteFault
AnsweredBy p was now budget served calls out Stale = OneFails p was now budget served calls out Stale
AnsweredBy p was now budget served calls out Unasked = OneFails p was now budget served calls out Unasked
AnsweredBy p was now budget served calls out NoMemory = AllServed p was now budget served calls out NoMemory ⊎ OneFails p was now budget served calls out NoMemory
AnsweredBy p was now budget served calls out Stopped = ⊥

-- what the connection came to, up to its end event
pub record Ended {M : Type 0} (steps : M → PortEvent → PortAnswer → M → Type 0) (refusal : M → M → Type 0) (decks_left : M → ℕ) (start : M) (by : ℕ) (seen later : List (Entry PortEvent PortAnswer)) (p : Port) (budget : ℕ) (was now : Sides) (end : End) : Type 0 where
  pub served : List Envelope
  pub calls : List Call
  pub out : List ℕ
  pub gained : Gained steps refusal decks_left start by seen later calls
  pub wrote : Appends was.written now.written out
  pub source_rises : was.source_faults ≤ now.source_faults
  pub sink_rises : was.sink_faults ≤ now.sink_faults
  pub how : AnsweredBy p was now budget served calls out end

abbrev pub Turn : {M : Type 0} (steps : M → PortEvent → PortAnswer → M → Type 0) (refusal : M → M → Type 0) (decks_left : M → ℕ) (start : M) (by : ℕ) (seen later : List (Entry PortEvent PortAnswer)) (p : Port) (was now : Sides) (inlet : Inlet) → Result Bool End → Type 0
Turn steps refusal decks_left start by seen later p was now inlet (Ok on) = Going steps refusal decks_left start by seen later p was now inlet on
Turn steps refusal decks_left start by seen later p was now inlet (Err end) = Ended steps refusal decks_left start by seen later p inlet.budget was now end

-- the end event, which may be missing for want of memory alone
abbrev pub EndsIn : Port → List Call → End → Type 0
EndsIn p calls end = ((a : PortAnswer) × (calls ≡ (event p EndedIn, a) ∷ [])) ⊎ ((calls ≡ []) × (end ≡ NoMemory))

-- What a connection that this end accepted came to: the messages served, the entries that the pass gained, what was
-- written, and why it ended.
pub record Accepted {M : Type 0} (steps : M → PortEvent → PortAnswer → M → Type 0) (refusal : M → M → Type 0) (decks_left : M → ℕ) (start : M) (by : ℕ) (seen later : List (Entry PortEvent PortAnswer)) (p : Port) (budget : ℕ) (was now : Sides) (end : End) : Type 0 where
  pub served : List Envelope
  pub calls : List Call
  pub last : List Call
  pub out : List ℕ
  pub gained : Gained steps refusal decks_left start by seen later (calls ++ last)
  pub ended : EndsIn p last end
  pub wrote : Appends was.written now.written out
  pub source_rises : was.source_faults ≤ now.source_faults
  pub sink_rises : was.sink_faults ≤ now.sink_faults
  pub why : End
  pub how : AnsweredBy p was now budget served calls out why
  pub end_is : (end ≡ why) ⊎ ((end ≡ NoMemory) × (last ≡ []))
