-- What the five words do on a world of their own: no stage is seen.
use Rattle.std.specs.Prelude.{◌≡◌, ℕ, List, Option}
use Rattle.stream_commands.specs.Lines.{count_line, refused_line}
use Rattle.stream_commands.specs.Listings.{IsListed as IsShown, IsCounted, no_last}
use Rattle.stream_commands.specs.Running.{IsBrokenOff, IsDone}
use Rattle.reading_commands.specs.Answered.{AreAnswered}
use Rattle.device_answers.specs.Taking.{refused_text}
use Rattle.script_plays.specs.Played.{IsListed, IsReplayBroken, IsMadeBroken, IsSummed}
use Rattle.world_stage.specs.Stages.{IsPlayed}
use Rattle.world_stage.specs.declared.play.Play.{Play}
use Rattle.replay_commands.specs.Commands.{Command}
use Rattle.replay_commands.specs.Commands.Command.{Take, Show, Check, Replay, Make}

-- All was read and written: `replay` wrote the listing of the script's run, `make` the summary of its run, and nothing else;
-- each run is safe. `make` reads nothing.
abbrev pub DoneInMemory : Command → Option (List ℕ) → Option (List ℕ) → Option (List ℕ) → Option (List ℕ) → Type 0
DoneInMemory Take left_before left_after written_before written_after = IsDone AreAnswered no_last left_before left_after written_before written_after
DoneInMemory Show left_before left_after written_before written_after = IsDone IsShown no_last left_before left_after written_before written_after
DoneInMemory Check left_before left_after written_before written_after = IsDone IsCounted count_line left_before left_after written_before written_after
DoneInMemory Replay left_before left_after written_before written_after = IsListed left_before left_after written_before written_after
DoneInMemory (Make count) left_before left_after written_before written_after = IsSummed count written_before written_after × (left_after ≡ left_before)

-- The sink failed: a part of what is due was written. `make` reads nothing.
abbrev pub BrokenInMemory : Command → Option (List ℕ) → Option (List ℕ) → Option (List ℕ) → Option (List ℕ) → Type 0
BrokenInMemory Take left_before left_after written_before written_after = IsBrokenOff AreAnswered AreAnswered no_last refused_text left_before left_after written_before written_after
BrokenInMemory Show left_before left_after written_before written_after = IsBrokenOff IsShown IsShown no_last refused_line left_before left_after written_before written_after
BrokenInMemory Check left_before left_after written_before written_after = IsBrokenOff IsCounted IsCounted count_line refused_line left_before left_after written_before written_after
BrokenInMemory Replay left_before left_after written_before written_after = (shown : Option (Option Play)) × IsReplayBroken (IsPlayed shown) shown left_before left_after written_before written_after
BrokenInMemory (Make count) left_before left_after written_before written_after = (shown : Option (Option Play)) × IsMadeBroken (IsPlayed shown) shown count written_before written_after × (left_after ≡ left_before)
