use Rattle.world_parts.proofs.ShownTimes.{shown-time}
use Rattle.world_parts.proofs.times.own_time.Goals as goal

pub returns : goal.returns
returns c = shown-time _ _ _ _
