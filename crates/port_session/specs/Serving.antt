-- How the messages are served of a connection that this end accepted.
use Rattle.std.specs.Prelude.{◌≡◌, ℕ, ◌⊎◌, Bool, true, false, List, [], ◌∷◌, ◌++◌, Option, Result, Ok, Err}
use Rattle.mos_codec.specs.Codec.{encoding}
use Rattle.mos_io.specs.Bytes.{Appends, AppendsFront}
use Rattle.mos_io.specs.Counts.{Rose}
use Rattle.mos_values.specs.declared.message.Envelope.{Envelope}
use Rattle.port_events.specs.declared.answer.PortAnswer.{PortAnswer}
use Rattle.port_events.specs.declared.answer.PortAnswer.TheVariants.{Done, Say, Nothing, Taken, Unasked as unasked, Stale as stale}
use Rattle.port_events.specs.declared.event.PortEvent.{PortEvent}
use Rattle.port_events.specs.declared.event.What.TheVariants.{Accepted, Heard}
use Rattle.shared_machine.specs.declared.entry.Entry.{Entry}
use Rattle.shared_machine.specs.History.{StartsWith}
use Rattle.port_session.specs.Calls.{Gained}
use Rattle.port_session.specs.Events.{event}
use Rattle.port_session.specs.Messages.{IsFor, refusal, reply}
use Rattle.port_session.specs.declared.end.End.{End}
use Rattle.port_session.specs.declared.end.End.TheVariants.{Closed, Truncated, BadMessage, ReadFault, WriteFault, Budget, Stale, Unasked, Stopped, NoMemory}
use Rattle.port_session.specs.declared.port.Port.{Port}

-- an event, and what the hub answered
abbrev pub Call : Type 0
Call = PortEvent × PortAnswer

-- ---- answers

-- the bytes that are the answer
abbrev pub said : Envelope → PortAnswer → List ℕ
said e (Say m) = encoding (reply e m)
said e Done = []
said e Nothing = []
said e Taken = []
said e unasked = []
said e stale = []

-- the connection goes on after this answer
abbrev pub IsFine : PortAnswer → Type 0
IsFine (Say m) = Unit {0}
IsFine Done = Unit {0}
IsFine Nothing = Unit {0}
IsFine Taken = Unit {0}
IsFine unasked = ⊥
IsFine stale = ⊥

-- ---- one message

-- Accepted comes directly before the first message for this end; `on` says that it was told.
abbrev pub Opens : Port → Bool → List Call → Type 0
Opens p true calls = calls ≡ []
Opens p false calls = (a : PortAnswer) × IsFine a × (calls ≡ (event p Accepted, a) ∷ [])

-- a message for this end, up to the answer that the hub gave to it
abbrev pub Hears : Port → Bool → Envelope → List Call → PortAnswer → Type 0
Hears p on e calls a = IsFor p e × ((before : List Call) × Opens p on before × (calls ≡ before ++ (event p (Heard e.message), a) ∷ []))

-- One message was served: one for another end is answered `NOT FOR ME` and is no event, one for this end is heard and
-- answered.
abbrev pub Serve : Port → Bool → Envelope → List Call → List ℕ → Bool → Type 0
Serve p on e calls out later =
    ((IsFor p e → ⊥) × (calls ≡ []) × (out ≡ encoding (reply e (refusal p.side e.message))) × (later ≡ on))
    ⊎ ((later ≡ true) × ((a : PortAnswer) × IsFine a × Hears p on e calls a × (out ≡ said e a)))

-- these messages were served, one after the other
abbrev pub Serves : Port → Bool → List Envelope → List Call → List ℕ → Bool → Type 0
Serves p on [] calls out later = (calls ≡ []) × (out ≡ []) × (later ≡ on)
Serves p on (e ∷ es) calls out later =
    (now : List Call) × (rest : List Call) × (front : List ℕ) × (back : List ℕ) × (mid : Bool)
    × Serve p on e now front mid × Serves p mid es rest back later × (calls ≡ now ++ rest) × (out ≡ front ++ back)

-- ---- the message with which the connection ends

-- the message, or Accepted before it, was answered so
abbrev pub Turned : Port → Bool → Envelope → List Call → PortAnswer → Type 0
Turned p on e calls a = Hears p on e calls a ⊎ (IsFor p e × (on ≡ false) × (calls ≡ (event p Accepted, a) ∷ []))

-- the message may lack its event or its answer
abbrev pub IsPart : Port → Bool → Envelope → List Call → Type 0
IsPart p on e calls = (calls ≡ []) ⊎ (IsFor p e × Opens p on calls) ⊎ ((a : PortAnswer) × IsFine a × Hears p on e calls a)

-- How the message ends the connection: its answer couldn't be written whole, the hub answered so, or memory ran out.
abbrev pub Fails : Port → Bool → Envelope → List Call → List ℕ → ℕ → ℕ → End → Type 0
Fails p on e calls out n m WriteFault = Rose n m × ((whole : List ℕ) × (later : Bool) × Serve p on e calls whole later × StartsWith whole out)
Fails p on e calls out n m Stale = Turned p on e calls stale × (out ≡ [])
Fails p on e calls out n m Unasked = Turned p on e calls unasked × (out ≡ [])
Fails p on e calls out n m NoMemory = IsPart p on e calls × (out ≡ [])
Fails p on e calls out n m Closed = ⊥
Fails p on e calls out n m (Truncated k) = ⊥
Fails p on e calls out n m (BadMessage k c) = ⊥
Fails p on e calls out n m ReadFault = ⊥
Fails p on e calls out n m Budget = ⊥
Fails p on e calls out n m Stopped = ⊥

abbrev pub Served : Port → Bool → Envelope → List Call → List ℕ → ℕ → ℕ → Result Bool End → Type 0
Served p on e calls out n m (Ok later) = Serve p on e calls out later
Served p on e calls out n m (Err end) = Fails p on e calls out n m end

-- ---- the parts of serving one message

-- whether the connection goes on after this answer
abbrev pub Goes : PortAnswer → Result (Unit {0}) End → Type 0
Goes a (Ok u) = IsFine a
Goes a (Err Stale) = a ≡ stale
Goes a (Err Unasked) = a ≡ unasked
Goes a (Err NoMemory) = ⊥
Goes a (Err Closed) = ⊥
Goes a (Err (Truncated k)) = ⊥
Goes a (Err (BadMessage k c)) = ⊥
Goes a (Err ReadFault) = ⊥
Goes a (Err WriteFault) = ⊥
Goes a (Err Budget) = ⊥
Goes a (Err Stopped) = ⊥

-- what telling that the connection was accepted came to
abbrev pub Began : Port → Bool → List Call → Result (Unit {0}) End → Type 0
Began p on calls (Ok u) = Opens p on calls
Began p on calls (Err Stale) = (on ≡ false) × (calls ≡ (event p Accepted, stale) ∷ [])
Began p on calls (Err Unasked) = (on ≡ false) × (calls ≡ (event p Accepted, unasked) ∷ [])
Began p on calls (Err NoMemory) = calls ≡ []
Began p on calls (Err Closed) = ⊥
Began p on calls (Err (Truncated k)) = ⊥
Began p on calls (Err (BadMessage k c)) = ⊥
Began p on calls (Err ReadFault) = ⊥
Began p on calls (Err WriteFault) = ⊥
Began p on calls (Err Budget) = ⊥
Began p on calls (Err Stopped) = ⊥

-- what writing the hub's answer came to
abbrev pub Responds : Option (List ℕ) → Option (List ℕ) → ℕ → ℕ → Envelope → PortAnswer → Result Bool End → Type 0
Responds k k' n n' e a (Ok later) = (later ≡ true) × IsFine a × Appends k k' (said e a)
Responds k k' n n' e a (Err WriteFault) = IsFine a × AppendsFront k k' (said e a) × Rose n n'
Responds k k' n n' e a (Err Stale) = (a ≡ stale) × (k' ≡ k)
Responds k k' n n' e a (Err Unasked) = (a ≡ unasked) × (k' ≡ k)
Responds k k' n n' e a (Err NoMemory) = IsFine a × (k' ≡ k)
Responds k k' n n' e a (Err Closed) = ⊥
Responds k k' n n' e a (Err (Truncated m)) = ⊥
Responds k k' n n' e a (Err (BadMessage m c)) = ⊥
Responds k k' n n' e a (Err ReadFault) = ⊥
Responds k k' n n' e a (Err Budget) = ⊥
Responds k k' n n' e a (Err Stopped) = ⊥

-- one message was served, or the connection ends with it
pub record Exchanged {M : Type 0} (steps : M → PortEvent → PortAnswer → M → Type 0) (refusal : M → M → Type 0) (decks_left : M → ℕ) (start : M) (by : ℕ) (seen later : List (Entry PortEvent PortAnswer))
    (k : Option (List ℕ)) (n : ℕ) (k' : Option (List ℕ)) (n' : ℕ) (p : Port) (on : Bool) (e : Envelope) (result : Result Bool End) : Type 0 where
  pub calls : List Call
  pub out : List ℕ
  pub gained : Gained steps refusal decks_left start by seen later calls
  pub wrote : Appends k k' out
  pub served : Served p on e calls out n n' result
