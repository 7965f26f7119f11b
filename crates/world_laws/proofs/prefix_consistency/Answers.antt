use Rattle.world_laws.proofs.SafeRun.{safe_run, consistent_run}
use Rattle.world_laws.proofs.prefix_consistency.Goals as goal

pub returns : goal.returns
returns c = record { safe = safe_run; consistent = consistent_run }
