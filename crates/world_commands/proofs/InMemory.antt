-- What `mos_run` does on a stage that plays the world's definition, without the stage.
use Rattle.std.specs.Prelude.{◌≡◌, ℕ, List, Option}
use Rattle.replay_commands.specs.Commands.{Command, DoneBy, BrokenOffBy}
use Rattle.replay_commands.specs.Commands.Command.{Take, Show, Check, Replay, Make}
use Rattle.script_plays.specs.Played.{IsListed, IsMade, IsReplayed, IsSummed}
use Rattle.world_commands.specs.InMemory.{BrokenInMemory, DoneInMemory}
use Rattle.world_stage.specs.Stages.{IsPlayed}
use Rattle.world_stage.specs.declared.play.Play.{Play}

-- what is listed, and what is summed up, on such a stage
abbrev pub Replays : Type 0
Replays = (shown : Option (Option Play)) (left_before left_after written_before written_after : Option (List ℕ)) → IsReplayed (IsPlayed shown) shown left_before left_after written_before written_after → IsListed left_before left_after written_before written_after

abbrev pub Makes : Type 0
Makes = (shown : Option (Option Play)) (n : ℕ) (written_before written_after : Option (List ℕ)) → IsMade (IsPlayed shown) shown n written_before written_after → IsSummed n written_before written_after

pub done_in_memory : Replays → Makes → (c : Command) (shown : Option (Option Play)) (left_before left_after written_before written_after : Option (List ℕ)) → DoneBy c (IsPlayed shown) shown left_before left_after written_before written_after → DoneInMemory c left_before left_after written_before written_after
done_in_memory replays makes Take shown left_before left_after written_before written_after d = d
done_in_memory replays makes Show shown left_before left_after written_before written_after d = d
done_in_memory replays makes Check shown left_before left_after written_before written_after d = d
done_in_memory replays makes Replay shown left_before left_after written_before written_after d = replays shown left_before left_after written_before written_after d
done_in_memory replays makes (Make count) shown left_before left_after written_before written_after d = (makes shown count written_before written_after d.0, d.1)

pub broken_in_memory : (c : Command) (shown : Option (Option Play)) (left_before left_after written_before written_after : Option (List ℕ)) → BrokenOffBy c (IsPlayed shown) shown left_before left_after written_before written_after → BrokenInMemory c left_before left_after written_before written_after
broken_in_memory Take shown left_before left_after written_before written_after d = d
broken_in_memory Show shown left_before left_after written_before written_after d = d
broken_in_memory Check shown left_before left_after written_before written_after d = d
broken_in_memory Replay shown left_before left_after written_before written_after d = (shown, d)
broken_in_memory (Make count) shown left_before left_after written_before written_after d = (shown, d.0, d.1)
