-- How the program's run ends.
use Rattle.std.specs.Prelude.{◌≡◌, ℕ, List, Option, None, ◌⊎◌}
use Rattle.mos_fields.specs.Faults.{Fault}
use Rattle.mos_fields.specs.declared.fault.FieldFault.{FieldFault}
use Rattle.mos_fields.specs.declared.fault.FieldFault.TheVariants as faults
use Rattle.port_links.specs.declared.place.Place.{Place}
use Rattle.edit_lines.specs.declared.request.Names.{Names}
use Rattle.edit_runs.specs.Runs.{Ends, sides}
use Rattle.edit_runs.specs.declared.status.EditStatus.{EditStatus}
use Rattle.edit_runs.specs.declared.status.EditStatus.TheVariants as statuses
use Rattle.edit_program.specs.Dials.{Dials, HasFailed, HasOpened}
use Rattle.edit_program.specs.Words.{ArePlace, AreWords, IsServer, editor_id, halves_of}

-- ---- words of which nothing comes

-- the status of a word that has this fault
abbrev pub fault_status : FieldFault → EditStatus
fault_status faults.NoMemory = statuses.NoMemory
fault_status fault = statuses.Usage

-- how the program ends where nothing comes of a word: it has a fault, or memory ran out
abbrev pub IsNoValue : Fault → EditStatus → Type 0
IsNoValue fault status = (status ≡ statuses.NoMemory) ⊎ ((status ≡ statuses.Usage) × (fault ≡ None → ⊥))

-- the same where no place comes of what stands before a colon and behind it
abbrev pub AreNoPlace : Option (List ℕ × List ℕ) → EditStatus → Type 0
AreNoPlace halves status = (status ≡ statuses.NoMemory) ⊎ ((status ≡ statuses.Usage) × ((place : Place) → ArePlace halves place → ⊥))

-- the same where no place comes of a word
abbrev pub IsNoPlace : List ℕ → EditStatus → Type 0
IsNoPlace word status = AreNoPlace (halves_of word) status

-- the same where two words are no place and ID
abbrev pub IsNoServer : List ℕ → List ℕ → EditStatus → Type 0
IsNoServer first second status = (status ≡ statuses.NoMemory) ⊎ ((status ≡ statuses.Usage) × ((place : Place) (id : List ℕ) → IsServer first second place id → ⊥))

-- ---- runs

-- what is seen of the input, of what is told and of what is noted, with the counts of faults of each
pub record Streams : Type 0 where
  pub left : Option (List ℕ)
  pub reads : ℕ
  pub shown : Option (List ℕ)
  pub shows : ℕ
  pub noted : Option (List ℕ)
  pub notes : ℕ

abbrev pub streams : Option (List ℕ) → ℕ → Option (List ℕ) → ℕ → Option (List ℕ) → ℕ → Streams
streams l f k m n h = record { left = l; reads = f; shown = k; shows = m; noted = n; notes = h }

-- A run over some connection, by messages of an editor to the server of this ID.
pub record HasRun (id : List ℕ) (was now : Streams) (status : EditStatus) : Type 0 where
  pub names : Names
  pub mos : names.mos ≡ editor_id
  pub ncs : names.ncs ≡ id
  pub left : Option (List ℕ)
  pub heard : ℕ
  pub sent : Option (List ℕ)
  pub sends : ℕ
  pub left_later : Option (List ℕ)
  pub heard_later : ℕ
  pub sent_later : Option (List ℕ)
  pub sends_later : ℕ
  pub ends : Ends names was.left now.left was.reads now.reads (sides left heard sent sends was.shown was.shows was.noted was.notes) (sides left_later heard_later sent_later sends_later now.shown now.shows now.noted now.notes) status

-- Memory ran out before the dialer was called: nothing was read or written.
pub record IsStarved (before after : Dials) (was now : Streams) (status : EditStatus) : Type 0 where
  pub status_is : status ≡ statuses.NoMemory
  pub uncalled : after ≡ before
  pub still : now ≡ was

-- The dialer was called, and opened no connection: nothing was read or written.
pub record IsUnopened (before after : Dials) (was now : Streams) (status : EditStatus) : Type 0 where
  pub status_is : status ≡ statuses.Lost
  pub failed : HasFailed before after
  pub still : now ≡ was

-- The dialer was called. A run was made over the connection that it opened, or it opened none.
abbrev pub Connects : List ℕ → Dials → Dials → Streams → Streams → EditStatus → Type 0
Connects id before after was now status = (HasOpened before after × HasRun id was now status) ⊎ IsUnopened before after was now status

-- what the program does with words that are where the server's port is and its ID
pub record Runs (words : List (List ℕ)) (before after : Dials) (was now : Streams) (status : EditStatus) : Type 0 where
  pub place : Place
  pub id : List ℕ
  pub are : AreWords words place id
  pub how : Connects id before after was now status

-- with other words the dialer isn't called, and nothing is read or written
pub record Refuses (words : List (List ℕ)) (before after : Dials) (was now : Streams) (status : EditStatus) : Type 0 where
  pub are_none : (place : Place) (id : List ℕ) → AreWords words place id → ⊥
  pub status_is : status ≡ statuses.Usage
  pub uncalled : after ≡ before
  pub still : now ≡ was

-- How the program's run ends. That memory ran out may be told with any words.
abbrev pub ProgramEnds : List (List ℕ) → Dials → Dials → Streams → Streams → EditStatus → Type 0
ProgramEnds words before after was now status = Runs words before after was now status ⊎ (Refuses words before after was now status ⊎ IsStarved before after was now status)
