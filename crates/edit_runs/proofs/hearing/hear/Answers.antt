use Rattle.std.proofs.Common.{refl}
use Rattle.edit_runs.proofs.Goings.{told_by, untold_by}
use Rattle.edit_runs.proofs.hearing.hear.Goals as goal

pub returns-in-Ok-clause-told : goal.returns-in-Ok-clause-told
returns-in-Ok-clause-told g c l f given r = told_by l f _ _ _ given _ _ _ _ _ _ _ _ (c.in-Ok.ensures.heard l f given r) c.show_and_leave.ensures.showed

pub returns-in-Err-clause-told : goal.returns-in-Err-clause-told
returns-in-Err-clause-told g c l f given r =
    rw c.lost_by.ensures (untold_by l f _ _ c.next_answer.new.inlet given c.args.line.now c.args.asked.now _ _ _ _ _ _ (c.in-Err.ensures.heard l f given r).0 refl)
