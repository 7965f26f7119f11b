-- The words that a run is called with.
use Rattle.std.specs.Prelude.{◌≡◌, ℕ, List, [], ◌∷◌, codes, length, Option, Some, None, if◌then◌else◌, nat_le, ◌&&◌}
use Rattle.script_edits.specs.Words.{number_of}
use Rattle.replay_commands.specs.Commands.{Command}
use Rattle.replay_commands.specs.Commands.Command.{Take, Show, Check, Replay, Make}
use Rattle.replay_commands.specs.declared.words.Asked.{Asked}
use Rattle.replay_commands.specs.declared.words.Asked.TheVariants as asked

-- the most digits of a count, and the most events
abbrev pub count_digits : ℕ
count_digits = 6

abbrev pub count_limit : ℕ
count_limit = 200000

abbrev pub allowed_count : ℕ → Option ℕ → Option ℕ
allowed_count digits None = None
allowed_count digits (Some n) = if nat_le digits count_digits && nat_le n count_limit then Some n else None

-- the count of events that a word is
abbrev pub count_of : List ℕ → Option ℕ
count_of word = allowed_count (length word) (number_of word)

-- The word of the command alone; behind `make` stands a count.
abbrev pub Asks : Command → List (List ℕ) → Type 0
Asks Take words = words ≡ codes "take" ∷ []
Asks Show words = words ≡ codes "show" ∷ []
Asks Check words = words ≡ codes "check" ∷ []
Asks Replay words = words ≡ codes "replay" ∷ []
Asks (Make n) words = (word : List ℕ) × (words ≡ codes "make" ∷ word ∷ []) × (count_of word ≡ Some n)

-- the words ask for a command
abbrev pub AreWords : List (List ℕ) → Type 0
AreWords words = (c : Command) × Asks c words

abbrev pub command_of : Asked → Command
command_of asked.Take = Take
command_of asked.Show = Show
command_of asked.Check = Check
command_of asked.Replay = Replay
command_of (asked.Make n) = Make n

-- the words ask for this command and no other
pub record AsksOnly (c : Command) (words : List (List ℕ)) : Type 0 where
  pub asks : Asks c words
  pub only : (d : Command) → Asks d words → d ≡ c
