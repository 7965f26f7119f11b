use Rattle.std.proofs.Common.{ℕ, ◌-◌, [], length, take, IsSome}
use Rattle.world_scripts.specs.WorldEvents.{events_of}
use Rattle.script_plays.specs.Played.{HasLines}
use Rattle.script_plays.proofs.playing.play.Given as goal

abbrev pub invariant-events : goal.invariant-events
invariant-events g l = record {
  begun : IsSome (g.T.Stage.shown l.stage);
  lines : (devices : ℕ) → g.T.Stage.told l.initial.stage devices [] [] → HasLines (g.T.Stage.told l.stage) devices (events_of (take l.played l.events)) l.out.items;
}

abbrev pub decreases-events : goal.decreases-events
decreases-events g l = length l.events - l.played
