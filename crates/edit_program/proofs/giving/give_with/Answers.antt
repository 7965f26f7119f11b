use Rattle.edit_program.proofs.FileLemmas.{checks_none, ends_unchecked}
use Rattle.edit_program.proofs.giving.give_with.Goals as goal

pub returns-in-Err : goal.returns-in-Err
returns-in-Err g c = ends_unchecked _ _ _ c.in-Err.status (checks_none c.args.first.now c.args.second.now c.args._path.now c.in-Err.status c.in-Err.ensures.fault)
