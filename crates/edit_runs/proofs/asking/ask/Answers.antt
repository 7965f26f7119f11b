use Rattle.std.proofs.Common.{refl, arith}
use Rattle.edit_runs.proofs.Goings.{going_heard, stops_unsent, stops_untold}
use Rattle.edit_runs.proofs.asking.ask.Goals as goal

pub returns-in-Err-clause-handled : goal.returns-in-Err-clause-handled
returns-in-Err-clause-handled g c names lines was n h w s = rw c.at_line.ensures (stops_unsent names lines _ was _ _ _ w _ _ s _ _ _ c.in-Err.ensures.sent)

pub returns-in-Err-hear-clause-handled : goal.returns-in-Err-hear-clause-handled
returns-in-Err-hear-clause-handled g c names lines was n h w s =
    rw c.at_line-in-Err-hear.ensures (stops_untold names lines _ was _ _ _ w _ _ s _ c.hear.new.inlet _ c.in-Ok.ensures.sent refl (c.in-Err-hear.ensures.told _ _ _ w.reads))

pub returns-in-Ok-hear-clause-handled : goal.returns-in-Ok-hear-clause-handled
returns-in-Ok-hear-clause-handled g c names lines was n h w s =
    rw c.answered.ensures (going_heard names lines _ was _ _ _ w _ _ s _ _ _ (c.in-Ok-hear.ensures.told _ _ _ w.reads) c.in-Ok.ensures.sent refl c.hear.ensures.hears c.send.ensures.rises c.hear.ensures.shows (omega arith))
