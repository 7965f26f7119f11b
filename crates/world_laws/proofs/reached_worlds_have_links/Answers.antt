use Rattle.world_laws.proofs.Reaching.{reached-opening, reached-step, reached-links, reached-within}
use Rattle.world_laws.proofs.reached_worlds_have_links.Goals as goal

pub returns : goal.returns
returns c = record { opening = reached-opening; step = reached-step; links = reached-links; within = reached-within }
