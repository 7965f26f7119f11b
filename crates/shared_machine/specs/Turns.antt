-- The rule of the hub's table, and what each kind of atomic step tells. The table has three words, which are the count of entries, the next ticket and
-- the ticket that is served, and one slot, for the machine. A view is what the holder of a seat knows.
use Rattle.std.specs.Prelude.{◌≡◌, ◌≢◌, ℕ, ◌+◌, ◌<◌, ◌≤◌, ◌^◌, List, [], ◌∷◌, ◌++◌, length, true, false, Option, Some, None}
use mathlib.Core.Option.{some, none}
use mathlib.Core.Option as maybe
use lib.ListN.{get_elem?}
use Rattle.std.specs.declared.snapshot.Snapshot.{Snapshot}
use Rattle.atomic_table.specs.Table.{State, Me, Step, rest}
use Rattle.shared_machine.specs.declared.entry.Entry.{Entry}
use Rattle.shared_machine.specs.declared.turn_state.TurnState.{TurnState}
use Rattle.shared_machine.specs.declared.turn_state.TurnState.TheVariants.{Idle, Unnumbered, Waiting, HasTurn, HoldsMachine, Spent}
use Rattle.shared_machine.specs.declared.seat_view.SeatView.{SeatView}
use Rattle.shared_machine.specs.declared.slot_value.SlotValue.{SlotValue}
use Rattle.shared_machine.specs.History.{StartsWith, entry, calls_by, Reaches, IsLegal}

-- the ticket t is out with this seat
abbrev pub HasTicket : {M : Type 0} → TurnState M → ℕ → Type 0
HasTicket Idle t = ⊥
HasTicket Unnumbered t = ⊥
HasTicket (Waiting u) t = u ≡ t
HasTicket (HasTurn u) t = u ≡ t
HasTicket (HoldsMachine u m r) t = u ≡ t
HasTicket Spent t = ⊥

-- the seat has the slot in hand
abbrev pub IsHoldingMachine : {M : Type 0} → TurnState M → Type 0
IsHoldingMachine Idle = ⊥
IsHoldingMachine Unnumbered = ⊥
IsHoldingMachine (Waiting u) = ⊥
IsHoldingMachine (HasTurn u) = ⊥
IsHoldingMachine (HoldsMachine u m r) = Unit {0}
IsHoldingMachine Spent = ⊥

module _ {M E A : Type 0} where
  -- What the seat has seen, and what it received, are prefixes of the history. The calls of its number in the whole history are those that it has seen.
  pub record IsNumbered (start : M) (history : List (Entry E A)) (seat : ℕ) (v : SeatView M E A) : Type 0 where
    pub begins : v.start ≡ Some start
    pub number : v.caller ≡ seat
    pub seen : StartsWith history v.seen
    pub received : StartsWith history v.received
    pub own : calls_by seat history ≡ calls_by seat v.seen

  -- A seat that was split off still has its parent's number, and there is no call under its own.
  pub record IsUnnumbered (start : M) (history : List (Entry E A)) (seat : ℕ) (v : SeatView M E A) : Type 0 where
    pub begins : v.start ≡ Some start
    pub other : v.caller ≢ seat
    pub seen : StartsWith history v.seen
    pub received : StartsWith history v.received
    pub none_own : calls_by seat history ≡ []

  module _ (start : M) (history : List (Entry E A)) (machine : M) (ticket serving : ℕ) (home : maybe.Option (SlotValue M E A)) (seat : ℕ) (v : SeatView M E A) where
    -- The view fits the table. A ticket that waits isn't served yet or is just served; the holder of the turn finds the slot at home, until it takes it.
    -- While it holds the slot, the machine of the history is the one that it took, and the count is at most serving before it is raised.
    abbrev pub FitsTurn : TurnState M → Type 0
    FitsTurn Idle = IsNumbered start history seat v
    FitsTurn Unnumbered = IsUnnumbered start history seat v
    FitsTurn (Waiting t) = IsNumbered start history seat v × (serving ≤ t) × (t < ticket)
    FitsTurn (HasTurn t) = IsNumbered start history seat v × (t ≡ serving) × (t < ticket) × ((b : SlotValue M E A) × (home ≡ some b))
    FitsTurn (HoldsMachine t m is_raised) = IsNumbered start history seat v × (t ≡ serving) × (t < ticket) × (m ≡ machine) × (home ≡ none) × (is_raised ≡ false → length history ≤ serving)
    FitsTurn Spent = Unit {0}

module _ {M E A : Type 0} (steps : M → E → A → M → Type 0) (refusal : M → M → Type 0) (decks_left : M → ℕ) where
  -- What holds between any two steps, for some history, machine, ticket, serving and slot.
  pub record RuleHolds (start : M) (s : State (SlotValue M E A) (SeatView M E A)) : Type 0 where
    pub history : List (Entry E A)
    pub machine : M
    pub ticket : ℕ
    pub serving : ℕ
    pub home : maybe.Option (SlotValue M E A)
    -- the count is the length of the one history
    pub words : s.words ≡ length history ∷ ticket ∷ serving ∷ []
    pub slot : s.homes ≡ home ∷ []
    -- serving is at most ticket, and no word wraps
    pub order : serving ≤ ticket
    pub small : ticket < 2 ^ 64
    -- the count is at most serving, or one more while the holder of the turn has raised it in this turn
    pub counted : length history ≤ serving + 1
    -- the history is legal and leads to the machine
    pub reached : Reaches steps refusal decks_left start history machine
    -- a slot at home holds the machine after the history
    pub at_home : (b : SlotValue M E A) → home ≡ some b → (b.machine ≡ machine) × (length history ≤ serving)
    -- a slot that is out is with the holder of the turn
    pub away : home ≡ none → (j : ℕ) × (v : SeatView M E A) × (get_elem? s.views j ≡ some v) × HasTicket v.turn serving × IsHoldingMachine v.turn
    -- each view fits: what it has seen is a prefix of the history, and its ticket, if it has one, is from serving up to ticket
    pub each_seat : (j : ℕ) (v : SeatView M E A) → get_elem? s.views j ≡ some v → FitsTurn start history machine ticket serving home j v v.turn
    -- no ticket is in two views
    pub alone : (i j : ℕ) (u v : SeatView M E A) (t : ℕ) → get_elem? s.views i ≡ some u → get_elem? s.views j ≡ some v → HasTicket u.turn t → HasTicket v.turn t → i ≡ j
    -- each number from serving up to ticket is in a view
    pub each_ticket : (t : ℕ) → serving ≤ t → t < ticket → (j : ℕ) × (v : SeatView M E A) × (get_elem? s.views j ≡ some v) × HasTicket v.turn t
    -- no entry has a caller's number that wasn't given
    pub given : (by : ℕ) → length s.views ≤ by → calls_by by history ≡ []

-- a seat's view, and the slots that it has in hand
abbrev Mine : Type 0 → Type 0 → Type 0 → Type 0
Mine M E A = Me (SlotValue M E A) (SeatView M E A)

-- a step on a word
abbrev At : Type 0 → Type 0 → Type 0 → Type 0
At M E A = Step (SlotValue M E A)

-- the ticket that the seat has, if it has one
abbrev pub ticket_of : {M : Type 0} → TurnState M → ℕ
ticket_of Idle = 0
ticket_of Unnumbered = 0
ticket_of (Waiting t) = t
ticket_of (HasTurn t) = t
ticket_of (HoldsMachine t m r) = t
ticket_of Spent = 0

module _ {M E A : Type 0} where
  -- the first seat, of caller 0
  abbrev pub opening_view : M → SeatView M E A
  opening_view start = record { caller = 0; start = Some start; seen = []; received = []; turn = Idle }

  -- a seat that was joined into another
  abbrev pub spent_view : SeatView M E A
  spent_view = record { caller = 0; start = None; seen = []; received = []; turn = Spent }

  -- the same knowledge, elsewhere in a turn
  abbrev pub with_turn : SeatView M E A → TurnState M → SeatView M E A
  with_turn v turn = record { caller = v.caller; start = v.start; seen = v.seen; received = v.received; turn = turn }

  -- a seat split off this one
  abbrev pub unnumbered_view : SeatView M E A → SeatView M E A
  unnumbered_view v = record { caller = v.caller; start = v.start; seen = v.seen; received = []; turn = Unnumbered }

  -- a seat that was split off, once it has the number c
  abbrev pub numbered_view : SeatView M E A → ℕ → SeatView M E A
  numbered_view v c = record { caller = c; start = v.start; seen = v.seen; received = []; turn = Idle }

  -- the first seat, once the second was joined into it
  abbrev pub with_received : SeatView M E A → SeatView M E A → SeatView M E A
  with_received v w = record { caller = v.caller; start = v.start; seen = v.seen; received = w.seen; turn = v.turn }

  -- the seat, once it has seen the later history; what it received is in there
  abbrev pub with_seen : SeatView M E A → List (Entry E A) → SeatView M E A
  with_seen v later = record { caller = v.caller; start = v.start; seen = later; received = []; turn = v.turn }

  -- an idle seat that has seen more
  abbrev pub idle_with_seen : SeatView M E A → List (Entry E A) → SeatView M E A
  idle_with_seen v later = record { caller = v.caller; start = v.start; seen = later; received = v.received; turn = Idle }

  -- the compare-exchange on the next ticket: where it found what it expected, the caller has that ticket and waits
  abbrev pub ticket_taken : At M E A → Mine M E A → ℕ → Mine M E A → Type 0
  ticket_taken st m n m' = (m'.1 ≡ m.1) × (n ≡ st.first → m'.0 ≡ with_turn m.0 (Waiting n)) × (n ≢ st.first → m'.0 ≡ m.0)

  -- the load of serving: where that is the caller's ticket, it has the turn
  abbrev pub serving_seen : At M E A → Mine M E A → ℕ → Mine M E A → Type 0
  serving_seen st m n m' = (m'.1 ≡ m.1) × (n ≡ ticket_of m.0.turn → m'.0 ≡ with_turn m.0 (HasTurn n)) × (n ≢ ticket_of m.0.turn → m'.0 ≡ m.0)

  -- the load at which the slot is taken out: the seat has it in hand, with the machine that it holds now
  abbrev pub machine_taken : At M E A → Mine M E A → ℕ → Mine M E A → Type 0
  machine_taken st m n m' = (b : SlotValue M E A) × (m'.1 ≡ (0, b) ∷ m.1) × (m'.0 ≡ with_turn m.0 (HoldsMachine (ticket_of m.0.turn) b.machine false))

  -- the addition to serving: the slot is back, and the caller has no ticket
  abbrev pub turn_passed : At M E A → Mine M E A → ℕ → Mine M E A → Type 0
  turn_passed st m n m' = (m'.1 ≡ rest m.1) × (m'.0 ≡ with_turn m.0 Idle)

  -- the load at which a seat that was split off gets its number, under which it has seen no call
  abbrev pub caller_numbered : At M E A → Mine M E A → ℕ → Mine M E A → Type 0
  caller_numbered st m n m' = m.0.turn ≡ Unnumbered
      → (c : ℕ) × (c ≢ m.0.caller) × (calls_by c m.0.seen ≡ []) × (m'.1 ≡ m.1) × (m'.0 ≡ record { caller = c; start = m.0.start; seen = m.0.seen; received = []; turn = Idle })

  -- the load at which a seat has seen just what it received, where that is no shorter than what it had seen
  abbrev pub history_adopted : At M E A → Mine M E A → ℕ → Mine M E A → Type 0
  history_adopted st m n m' = m.0.turn ≡ Idle → length m.0.seen ≤ length m.0.received
      → (m'.1 ≡ m.1) × (m'.0 ≡ with_seen m.0 m.0.received) × StartsWith m.0.received m.0.seen × (calls_by m.0.caller m.0.received ≡ calls_by m.0.caller m.0.seen)

  -- between two calls: no ticket, nothing received, no slot in hand
  abbrev pub IsReady : Mine M E A → Type 0
  IsReady m = (m.0.turn ≡ Idle) × (m.0.received ≡ []) × (m.1 ≡ [])

  -- this event and this answer are noted beside the machine
  abbrev pub HasLastCall : SlotValue M E A → E → A → Type 0
  HasLastCall b event answer = (p : Snapshot (E × A)) × (b.last_call ≡ Some p) × (p.value ≡ (event, answer))

  module _ (steps : M → E → A → M → Type 0) (refusal : M → M → Type 0) (decks_left : M → ℕ) where
    -- The later history is legal, begins with all that was seen, and ends with this call, which is the one call more of its caller.
    abbrev pub AddsCall : Option M → ℕ → List (Entry E A) → E → A → ℕ → List (Entry E A) → Type 0
    AddsCall start by seen event answer rest later = let e : Entry E A = entry by event answer rest in
        ((between : List (Entry E A)) × (later ≡ (seen ++ between) ++ e ∷ [])) × IsLegal steps refusal decks_left start later × (calls_by by later ≡ calls_by by seen ++ e ∷ [])

    -- the addition to the count: the call that is noted beside the machine ends the history that the caller has then seen
    abbrev pub count_raised : At M E A → Mine M E A → ℕ → Mine M E A → Type 0
    count_raised st m n m' = (b : SlotValue M E A) (p : Snapshot (E × A)) → m.1 ≡ (0, b) ∷ [] → b.last_call ≡ Some p
        → (m'.1 ≡ m.1) × ((later : List (Entry E A)) × (m'.0 ≡ record { caller = m.0.caller; start = m.0.start; seen = later; received = m.0.received; turn = HoldsMachine (ticket_of m.0.turn) b.machine true })
        × AddsCall m.0.start m.0.caller m.0.seen p.value.0 p.value.1 (decks_left b.machine) later)

    -- the load of the count after which the seat has seen the history so far, all that it received among it
    abbrev pub history_learned : At M E A → Mine M E A → ℕ → Mine M E A → Type 0
    history_learned st m n m' = m.0.turn ≡ Idle
        → (later : List (Entry E A)) × (m'.1 ≡ m.1) × (m'.0 ≡ with_seen m.0 later) × StartsWith later m.0.seen × StartsWith later m.0.received
        × IsLegal steps refusal decks_left m.0.start later × (calls_by m.0.caller later ≡ calls_by m.0.caller m.0.seen)

    -- the machine at the end of a legal history that begins with all that was seen, and has no further call of the caller
    abbrev pub ClosesWith : Option M → ℕ → List (Entry E A) → M → Type 0
    ClosesWith start by seen end = (first : M) × (start ≡ Some first)
        × ((history : List (Entry E A)) × StartsWith history seen × (calls_by by history ≡ calls_by by seen) × Reaches steps refusal decks_left first history end)
