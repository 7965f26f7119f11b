use Rattle.edit_program.proofs.FileLemmas.{checks_none}
use Rattle.edit_program.proofs.giving.check_three.Goals as goal

pub returns-in-Err : goal.returns-in-Err
returns-in-Err c = checks_none c.args.first.now c.args.second.now c.args._path.now c.in-Err.status c.in-Err.ensures.fault
