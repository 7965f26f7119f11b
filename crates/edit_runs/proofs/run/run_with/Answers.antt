use Rattle.std.proofs.Common.{inr}
use Rattle.edit_runs.proofs.Inputs.{starved_first}
use Rattle.edit_runs.proofs.run.run_with.Goals as goal

pub returns-in-Err : goal.returns-in-Err
returns-in-Err g c = inr (starved_first _ _ _ _ c.requires)
