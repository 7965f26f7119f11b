-- What a worker that dials does.
use Rattle.std.specs.Prelude.{◌≡◌, ℕ, ◌≤◌, Bool, true, false, ◌||◌, List, [], ◌∷◌, ◌++◌, Option}
use Rattle.std.specs.List.{AllByRecursion}
use Rattle.mos_fields.specs.declared.time.MosTime.{MosTime}
use Rattle.mos_io.specs.Counts.{Rose}
use Rattle.mos_io.specs.Paces.{StopsBy, TakesPace}
use Rattle.mos_io.specs.declared.pacer.Pace.{Pace}
use Rattle.mos_io.specs.declared.pacer.Pace.TheVariants.{Again, Beat, Stop}
use Rattle.port_events.specs.declared.answer.PortAnswer.{PortAnswer}
use Rattle.port_events.specs.declared.event.PortEvent.{PortEvent}
use Rattle.port_events.specs.declared.event.What.TheVariants.{EndedOut}
use Rattle.port_links.specs.Links.{Gives}
use Rattle.port_session.specs.Calls.{Gained}
use Rattle.port_session.specs.Driven.{Opened, Reach}
use Rattle.port_session.specs.Driving.{Act, Drives, calls_of}
use Rattle.port_session.specs.Events.{event}
use Rattle.port_session.specs.declared.end.End.{End}
use Rattle.port_session.specs.declared.end.End.TheVariants.{Closed, Truncated, BadMessage, ReadFault, WriteFault, Budget, Stale, Unasked, Stopped, NoMemory}
use Rattle.port_session.specs.declared.port.Port.{Port}
use Rattle.port_session.specs.declared.stage.Stage.{Stage}
use Rattle.port_session.specs.declared.stage.Stage.TheVariants.{Begins}
use Rattle.shared_machine.specs.declared.entry.Entry.{Entry}
use Rattle.port_dialing.specs.Ports.{at_link}

-- what is seen of a worker that dials: its dialer, its pacer, its clock, and what its pass has seen
pub record Worker : Type 0 where
  pub links : Option (List ℕ)
  pub dials : ℕ
  pub paces : Option (List Pace)
  pub stops : ℕ
  pub time : Option MosTime
  pub seen : List (Entry PortEvent PortAnswer)

abbrev pub worker : Option (List ℕ) → ℕ → Option (List Pace) → ℕ → Option MosTime → List (Entry PortEvent PortAnswer) → Worker
worker links dials paces stops time seen = record { links = links; dials = dials; paces = paces; stops = stops; time = time; seen = seen }

-- ---- one dial

-- What one dial came to: no connection, and the pause after it; or the connection of this number, which was dropped for want
-- of memory, and the pause; or the connection, its end, and the pause, which isn't made where the pacer stopped the connection.
pub data Try : Type 0 where
  missed : (pace : Pace) → Try
  dropped : (number : ℕ) (pace : Pace) → Try
  drove : (number : ℕ) (end : End) (pace : Pace) → Try
  stopped : (number : ℕ) → Try

abbrev pub is_stop : Pace → Bool
is_stop Again = false
is_stop Beat = false
is_stop Stop = true

-- the worker ends with it
abbrev pub is_last : Try → Bool
is_last (missed pace) = is_stop pace
is_last (dropped number pace) = is_stop pace
is_last (drove number end pace) = is_stop pace
is_last (stopped number) = true

abbrev pub is_no_memory : End → Bool
is_no_memory NoMemory = true
is_no_memory Closed = false
is_no_memory (Truncated k) = false
is_no_memory (BadMessage k c) = false
is_no_memory ReadFault = false
is_no_memory WriteFault = false
is_no_memory Budget = false
is_no_memory Stale = false
is_no_memory Unasked = false
is_no_memory Stopped = false

abbrev pub is_stopped : End → Bool
is_stopped Stopped = true
is_stopped NoMemory = false
is_stopped Closed = false
is_stopped (Truncated k) = false
is_stopped (BadMessage k c) = false
is_stopped ReadFault = false
is_stopped WriteFault = false
is_stopped Budget = false
is_stopped Stale = false
is_stopped Unasked = false

-- memory was wanting in it
abbrev pub is_starved : Try → Bool
is_starved (missed pace) = false
is_starved (dropped number pace) = true
is_starved (drove number end pace) = is_no_memory end
is_starved (stopped number) = false

-- the numbers of the connections
abbrev pub numbers : List Try → List ℕ
numbers [] = []
numbers (missed pace ∷ xs) = numbers xs
numbers (dropped number pace ∷ xs) = number ∷ numbers xs
numbers (drove number end pace ∷ xs) = number ∷ numbers xs
numbers (stopped number ∷ xs) = number ∷ numbers xs

-- the dialer gave no connection, and there was a pause
pub record Missed (was now : Worker) (pace : Pace) : Type 0 where
  pub links : now.links ≡ was.links
  pub dialed : Rose was.dials now.dials
  pub dials_rise : was.dials ≤ now.dials
  pub paced : TakesPace was.paces now.paces pace
  pub stops_rise : was.stops ≤ now.stops
  pub stopped : StopsBy pace was.stops now.stops
  pub time : now.time ≡ was.time
  pub seen : now.seen ≡ was.seen

-- the dialer gave the connection of this number, and there was a pause
pub record Dropped (was now : Worker) (number : ℕ) (pace : Pace) : Type 0 where
  pub links : Gives was.links now.links (number ∷ [])
  pub dialed : Rose was.dials now.dials
  pub dials_rise : was.dials ≤ now.dials
  pub paced : TakesPace was.paces now.paces pace
  pub stops_rise : was.stops ≤ now.stops
  pub stopped : StopsBy pace was.stops now.stops
  pub time : now.time ≡ was.time
  pub seen : now.seen ≡ was.seen

-- The dialer gave the connection of this number, and it was driven at the port.
pub record Driven {M : Type 0} (steps : M → PortEvent → PortAnswer → M → Type 0) (refusal : M → M → Type 0) (decks_left : M → ℕ) (start : M) (by : ℕ) (p : Port) (budget : ℕ) (was now : Worker) (number : ℕ) (end : End) : Type 0 where
  pub links : Gives was.links now.links (number ∷ [])
  pub dialed : Rose was.dials now.dials
  pub dials_rise : was.dials ≤ now.dials
  pub first : Reach
  pub last : Reach
  pub opened : Opened steps refusal decks_left start by was.seen now.seen (at_link p number) budget first last end
  pub paces_first : first.paces ≡ was.paces
  pub paces_last : last.paces ≡ now.paces
  pub stops_first : first.stops ≡ was.stops
  pub stops_last : last.stops ≡ now.stops
  pub time_first : first.time ≡ was.time
  pub time_last : last.time ≡ now.time

-- the same, and there was a pause behind it
pub record Rested {M : Type 0} (steps : M → PortEvent → PortAnswer → M → Type 0) (refusal : M → M → Type 0) (decks_left : M → ℕ) (start : M) (by : ℕ) (p : Port) (budget : ℕ) (was now : Worker) (number : ℕ) (end : End) (pace : Pace) : Type 0 where
  pub paces : Option (List Pace)
  pub stops : ℕ
  pub driven : Driven steps refusal decks_left start by p budget was (worker now.links now.dials paces stops now.time now.seen) number end
  pub goes_on : is_stopped end ≡ false
  pub paced : TakesPace paces now.paces pace
  pub stops_rise : stops ≤ now.stops
  pub stopped : StopsBy pace stops now.stops

abbrev pub Tries : {M : Type 0} (steps : M → PortEvent → PortAnswer → M → Type 0) (refusal : M → M → Type 0) (decks_left : M → ℕ) (start : M) (by : ℕ) (p : Port) (budget : ℕ) (was now : Worker) → Try → Type 0
Tries steps refusal decks_left start by p budget was now (missed pace) = Missed was now pace
Tries steps refusal decks_left start by p budget was now (dropped number pace) = Dropped was now number pace
Tries steps refusal decks_left start by p budget was now (drove number end pace) = Rested steps refusal decks_left start by p budget was now number end pace
Tries steps refusal decks_left start by p budget was now (stopped number) = Driven steps refusal decks_left start by p budget was now number Stopped

-- ---- all dials

-- one after the other
abbrev pub Dials : {M : Type 0} (steps : M → PortEvent → PortAnswer → M → Type 0) (refusal : M → M → Type 0) (decks_left : M → ℕ) (start : M) (by : ℕ) (p : Port) (budget : ℕ) (was now : Worker) → List Try → Type 0
Dials steps refusal decks_left start by p budget was now [] = now ≡ was
Dials steps refusal decks_left start by p budget was now (x ∷ xs) =
    (mid : Worker) × Tries steps refusal decks_left start by p budget was mid x × Dials steps refusal decks_left start by p budget mid now xs

-- memory was wanting in one of them
abbrev pub any_starved : List Try → Bool
any_starved [] = false
any_starved (x ∷ xs) = is_starved x || any_starved xs

-- The events of one connection that this end opened, with the answers to them: those of what was done, in its order, and
-- the end event.
abbrev pub OneOpened : Port → Option MosTime → List (PortEvent × PortAnswer) → Type 0
OneOpened p time calls = (acts : List Act) × (stage : Stage) × (number : ℕ) × (a : PortAnswer) × Drives p time Begins 0 acts stage number × (calls ≡ calls_of acts ++ (event p EndedOut, a) ∷ [])

-- one list for each connection, in their order
abbrev pub AllOpened : Port → Option MosTime → List ℕ → List (PortEvent × PortAnswer) → Type 0
AllOpened p time [] calls = calls ≡ []
AllOpened p time (n ∷ ns) calls =
    (first : List (PortEvent × PortAnswer)) × (rest : List (PortEvent × PortAnswer)) × OneOpened (at_link p n) time first × AllOpened p time ns rest × (calls ≡ first ++ rest)

-- The worker dialed until the pacer stopped it. The entries that its pass gained are those of the connections, in their
-- order, and nothing else.
pub record Dialed {M : Type 0} (steps : M → PortEvent → PortAnswer → M → Type 0) (refusal : M → M → Type 0) (decks_left : M → ℕ) (start : M) (by : ℕ) (p : Port) (budget : ℕ) (was now : Worker) (starved : Bool) : Type 0 where
  pub firsts : List Try
  pub last : Try
  pub dials : Dials steps refusal decks_left start by p budget was now (firsts ++ last ∷ [])
  pub goes_on : AllByRecursion (λ x. is_last x ≡ false) firsts
  pub ends : is_last last ≡ true
  pub starves : starved ≡ any_starved (firsts ++ last ∷ [])
  pub dialed : Rose was.dials now.dials
  pub stopped : Rose was.stops now.stops
  pub given : Gives was.links now.links (numbers (firsts ++ last ∷ []))
  pub calls : List (PortEvent × PortAnswer)
  pub gained : Gained steps refusal decks_left start by was.seen now.seen calls
  pub opened : starved ≡ false → AllOpened p was.time (numbers (firsts ++ last ∷ [])) calls
