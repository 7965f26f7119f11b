use Rattle.side_lanes.proofs.Thirds.{still_there}
use Rattle.side_lanes.proofs.taken_out.run_parts.Goals as goal

pub gather-requires : goal.gather-requires
gather-requires g c = still_there g.X.Parts.three g.A.Lane.ran _ _ c.part-a.ensures.third c.run_lanes-a.ensures.third
