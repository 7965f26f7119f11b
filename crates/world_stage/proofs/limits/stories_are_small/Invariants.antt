use Rattle.std.proofs.Common.{drop}
use Rattle.mos_machines.specs.Small.{AreSmallStories}
use Rattle.world_stage.proofs.limits.stories_are_small.Given as goal

abbrev pub invariant-stories : goal.invariant-stories
invariant-stories l = AreSmallStories (drop l.story-index l.stories) → AreSmallStories l.stories
