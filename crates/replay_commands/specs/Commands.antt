-- What the commands do: what is read, told and written.
use Rattle.std.specs.Prelude.{◌≡◌, ℕ, List, Option}
use Rattle.stream_commands.specs.Lines.{count_line, refused_line}
use Rattle.stream_commands.specs.Listings.{IsListed, IsCounted, no_last}
use Rattle.stream_commands.specs.Running.{IsBrokenOff, IsCutOff, IsDone, IsRefused}
use Rattle.stream_commands.specs.Words.{IsDoneOf, IsRefusedOf}
use Rattle.reading_commands.specs.Answered.{AreAnswered}
use Rattle.device_answers.specs.Taking.{refused_text}
use Rattle.script_plays.specs.Played.{Telling, IsReplayed, IsReplayBroken, IsScriptRefused, IsMade, IsMadeBroken}
use Rattle.world_stage.specs.declared.play.Play.{Play}

pub data Command : Type 0 where
  Take : Command
  Show : Command
  Check : Command
  Replay : Command
  Make : (count : ℕ) → Command

-- Once all was read and written, with what the stage told and the world that it shows. `make` reads nothing.
abbrev pub DoneBy : Command → Telling → Option (Option Play) → Option (List ℕ) → Option (List ℕ) → Option (List ℕ) → Option (List ℕ) → Type 0
DoneBy Take told shown left_before left_after written_before written_after = IsDone AreAnswered no_last left_before left_after written_before written_after
DoneBy Show told shown left_before left_after written_before written_after = IsDone IsListed no_last left_before left_after written_before written_after
DoneBy Check told shown left_before left_after written_before written_after = IsDone IsCounted count_line left_before left_after written_before written_after
DoneBy Replay told shown left_before left_after written_before written_after = IsReplayed told shown left_before left_after written_before written_after
DoneBy (Make count) told shown left_before left_after written_before written_after = IsMade told shown count written_before written_after × (left_after ≡ left_before)

-- Where the input is refused. `make` refuses nothing.
abbrev pub RefusedBy : Command → Option (List ℕ) → Option (List ℕ) → Option (List ℕ) → Option (List ℕ) → Type 0
RefusedBy Take left_before left_after written_before written_after = IsRefused AreAnswered refused_text left_before left_after written_before written_after
RefusedBy Show left_before left_after written_before written_after = IsRefused IsListed refused_line left_before left_after written_before written_after
RefusedBy Check left_before left_after written_before written_after = IsRefused IsCounted refused_line left_before left_after written_before written_after
RefusedBy Replay left_before left_after written_before written_after = IsScriptRefused left_before left_after written_before written_after
RefusedBy (Make count) left_before left_after written_before written_after = ⊥

-- whether the command reads the input
abbrev pub Reads : Command → Type 0
Reads (Make count) = ⊥
Reads c = Unit {0}

-- Where the source fails. `replay` wrote nothing by then, and `make` reads none.
abbrev pub CutOffBy : Command → Option (List ℕ) → Option (List ℕ) → Option (List ℕ) → Option (List ℕ) → Type 0
CutOffBy Take left_before left_after written_before written_after = IsCutOff AreAnswered left_before left_after written_before written_after
CutOffBy Show left_before left_after written_before written_after = IsCutOff IsListed left_before left_after written_before written_after
CutOffBy Check left_before left_after written_before written_after = IsCutOff IsCounted left_before left_after written_before written_after
CutOffBy Replay left_before left_after written_before written_after = written_after ≡ written_before
CutOffBy (Make count) left_before left_after written_before written_after = ⊥

-- Where the sink fails.
abbrev pub BrokenOffBy : Command → Telling → Option (Option Play) → Option (List ℕ) → Option (List ℕ) → Option (List ℕ) → Option (List ℕ) → Type 0
BrokenOffBy Take told shown left_before left_after written_before written_after = IsBrokenOff AreAnswered AreAnswered no_last refused_text left_before left_after written_before written_after
BrokenOffBy Show told shown left_before left_after written_before written_after = IsBrokenOff IsListed IsListed no_last refused_line left_before left_after written_before written_after
BrokenOffBy Check told shown left_before left_after written_before written_after = IsBrokenOff IsCounted IsCounted count_line refused_line left_before left_after written_before written_after
BrokenOffBy Replay told shown left_before left_after written_before written_after = IsReplayBroken told shown left_before left_after written_before written_after
BrokenOffBy (Make count) told shown left_before left_after written_before written_after = IsMadeBroken told shown count written_before written_after × (left_after ≡ left_before)

-- ---- of an input that is known; the other two read no stream

abbrev pub WholeBy : Command → Option (List ℕ) → Option (List ℕ) → List ℕ → Type 0
WholeBy Take written_before written_after input = IsDoneOf AreAnswered no_last written_before written_after input
WholeBy Show written_before written_after input = IsDoneOf IsListed no_last written_before written_after input
WholeBy Check written_before written_after input = IsDoneOf IsCounted count_line written_before written_after input
WholeBy c written_before written_after input = Unit {0}

abbrev pub RejectedBy : Command → Option (List ℕ) → Option (List ℕ) → List ℕ → Type 0
RejectedBy Take written_before written_after input = IsRefusedOf AreAnswered refused_text written_before written_after input
RejectedBy Show written_before written_after input = IsRefusedOf IsListed refused_line written_before written_after input
RejectedBy Check written_before written_after input = IsRefusedOf IsCounted refused_line written_before written_after input
RejectedBy c written_before written_after input = Unit {0}
