use Rattle.std.proofs.Common.{ℕ, [], length, IsSome}
use Rattle.world_scripts.specs.Made.{made_events}
use Rattle.script_plays.proofs.ToldLines.{AreCounted, AreTold}
use Rattle.script_plays.proofs.playing.play_made.Given as goal

abbrev pub invariant-events : goal.invariant-events
invariant-events g l = record {
  begun : IsSome (g.T.Stage.shown l.stage);
  few : AreCounted l.counts (length l.generator);
  told : (devices : ℕ) → g.T.Stage.told l.initial.stage devices [] [] → AreTold (g.T.Stage.told l.stage) devices (made_events l.count) l.generator l.counts;
}

abbrev pub decreases-events : goal.decreases-events
decreases-events g l = length l.generator
