-- What listing and counting messages tells.
use Rattle.std.specs.Prelude.{◌≡◌, ℕ, List, []}
use Rattle.std.specs.List.{flat_map}
use Rattle.mos_lexer.specs.Units.{Found}
use Rattle.stream_commands.specs.Lines.{shown_line}

-- each message is listed, in a line of its own, and nothing is told behind the last one
abbrev pub IsListed : List Found → List ℕ → Type 0
IsListed found text = text ≡ flat_map shown_line found

abbrev pub no_last : ℕ → ℕ → List ℕ
no_last messages units = []

-- nothing is told of a message that is counted
abbrev pub IsCounted : List Found → List ℕ → Type 0
IsCounted found text = text ≡ []
