use Rattle.edit_runs.proofs.Inputs.{broken_line, talking_more}
use Rattle.edit_runs.proofs.turns.take_line.Goals as goal

pub returns-in-Ok-clause-taken : goal.returns-in-Ok-clause-taken
returns-in-Ok-clause-taken g c l k lines was h w =
    talking_more _ l k was _ _ _ c.args.reader.now _ lines h (c.clear.ensures.begun l k lines h) c.clear.ensures.most (rw (← c.line.ensures) (c.in-Ok.ensures.handled _ was w))

pub returns-in-Err-clause-taken : goal.returns-in-Err-clause-taken
returns-in-Err-clause-taken g c l k lines was h w = broken_line _ l k was _ _ c.args.reader.now lines (rw (← c.line.ensures) (c.in-Err.ensures.handled _ was w)) h
