use Rattle.edit_runs.proofs.Goings.{refuses_by}
use Rattle.edit_runs.proofs.asking.refuse.Goals as goal

pub returns-in-Err-clause-refuses : goal.returns-in-Err-clause-refuses
returns-in-Err-clause-refuses g c = rw c.at_line.ensures (refuses_by c.args.line.now c.args.counts.now _ _ _ _ _ c.in-Err.ensures.wrote)
