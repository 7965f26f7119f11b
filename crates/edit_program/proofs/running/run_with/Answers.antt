use Rattle.edit_program.proofs.ProgramLemmas.{ends_none}
use Rattle.edit_program.proofs.running.run_with.Goals as goal

pub returns-in-Err : goal.returns-in-Err
returns-in-Err g c = ends_none c.args.first.now c.args.second.now _ _ c.in-Err.status c.in-Err.ensures.fault
