-- How the program's run ends that is given a file of messages.
use Rattle.std.specs.Prelude.{◌≡◌, ℕ, List, [], ◌∷◌, Option, Result, Ok, Err}
use Rattle.port_links.specs.declared.place.Place.{Place}
use Rattle.edit_runs.specs.declared.status.EditStatus.{EditStatus}
use Rattle.edit_runs.specs.declared.status.EditStatus.TheVariants as statuses
use Rattle.message_runs.specs.Given.{Ends, sides}
use Rattle.message_runs.specs.declared.message_end.MessageEnd.{MessageEnd}
use Rattle.edit_program.specs.Dials.{Dials, HasFailed, HasOpened}
use Rattle.edit_program.specs.Words.{IsServer}

-- where the server's port is, the server's ID, and the path of a file
pub record AreFileWords (words : List (List ℕ)) : Type 0 where
  pub first : List ℕ
  pub second : List ℕ
  pub path : List ℕ
  pub are : words ≡ first ∷ second ∷ path ∷ []
  pub place : Place
  pub id : List ℕ
  pub is_server : IsServer first second place id

-- what looking at the words comes to
abbrev pub Checks : List (List ℕ) → Result (Unit {0}) EditStatus → Type 0
Checks words (Ok done) = AreFileWords words
Checks words (Err statuses.Usage) = AreFileWords words → ⊥
Checks words (Err statuses.NoMemory) = Unit {0}
Checks words (Err status) = ⊥

-- what is seen of the file and of what is told, with the counts of faults of each
pub record FileStreams : Type 0 where
  pub left : Option (List ℕ)
  pub reads : ℕ
  pub shown : Option (List ℕ)
  pub shows : ℕ

abbrev pub file_streams : Option (List ℕ) → ℕ → Option (List ℕ) → ℕ → FileStreams
file_streams l f k m = record { left = l; reads = f; shown = k; shows = m }

-- A run of the file's messages over some connection.
pub record HasGivenFile (was now : FileStreams) (end : MessageEnd) : Type 0 where
  pub left : Option (List ℕ)
  pub heard : ℕ
  pub sent : Option (List ℕ)
  pub sends : ℕ
  pub left_later : Option (List ℕ)
  pub heard_later : ℕ
  pub sent_later : Option (List ℕ)
  pub sends_later : ℕ
  pub ends : Ends was.left was.reads now.left now.reads (sides left heard sent sends was.shown was.shows) (sides left_later heard_later sent_later sends_later now.shown now.shows) end

-- A run was made over a connection that the dialer opened; or it opened none, or wasn't called for want of memory, and nothing was
-- read or written.
abbrev pub Gave : Dials → Dials → FileStreams → FileStreams → Result MessageEnd EditStatus → Type 0
Gave before after was now (Ok end) = HasOpened before after × HasGivenFile was now end
Gave before after was now (Err statuses.Lost) = HasFailed before after × (now ≡ was)
Gave before after was now (Err statuses.NoMemory) = (after ≡ before) × (now ≡ was)
Gave before after was now (Err status) = ⊥

-- How the program's run ends. The dialer is called, and a run is made, only with the words that it has to be given. Without a run
-- nothing is read or written.
abbrev pub FileEnds : List (List ℕ) → Dials → Dials → FileStreams → FileStreams → Result MessageEnd EditStatus → Type 0
FileEnds words before after was now (Ok end) = AreFileWords words × HasOpened before after × HasGivenFile was now end
FileEnds words before after was now (Err statuses.Lost) = AreFileWords words × HasFailed before after × (now ≡ was)
FileEnds words before after was now (Err statuses.Usage) = (AreFileWords words → ⊥) × (after ≡ before) × (now ≡ was)
FileEnds words before after was now (Err statuses.NoMemory) = (after ≡ before) × (now ≡ was)
FileEnds words before after was now (Err status) = ⊥
