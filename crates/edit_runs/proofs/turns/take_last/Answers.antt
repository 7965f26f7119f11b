use Rattle.edit_runs.proofs.Inputs.{broken_last, over_last}
use Rattle.edit_runs.proofs.turns.take_last.Goals as goal

pub returns-in-Ok-clause-taken : goal.returns-in-Ok-clause-taken
returns-in-Ok-clause-taken g c l k lines was h w = over_last _ l k was _ _ _ c.args.reader.now lines h (rw (← c.line-line.ensures) (c.in-Ok.ensures.handled _ was w))

pub returns-in-Err-clause-taken : goal.returns-in-Err-clause-taken
returns-in-Err-clause-taken g c l k lines was h w = broken_last _ l k was _ _ c.args.reader.now lines (rw (← c.line-line.ensures) (c.in-Err.ensures.handled _ was w)) h
