use Rattle.message_runs.proofs.Givings.{is_answered, stops_unsent, stops_untold}
use Rattle.message_runs.proofs.giving.give_bytes.Goals as goal

pub returns-in-Err-hear-clause-gives : goal.returns-in-Err-hear-clause-gives
returns-in-Err-hear-clause-gives g c was exchanges w =
    rw c.stopped_by-in-Err-hear.ensures (stops_untold was _ exchanges _ w c.args.e.now _ c.requires.bytes _ c.hear.new.inlet c.in-Ok.ensures.sent c.args.label.now _ (c.in-Err-hear.ensures.told _ _ _ w.reads))

pub returns-in-Ok-hear-clause-gives : goal.returns-in-Ok-hear-clause-gives
returns-in-Ok-hear-clause-gives g c was exchanges w =
    is_answered was _ exchanges _ w c.args.e.now _ c.requires.bytes _ c.hear.new.inlet c.in-Ok.ensures.sent _ c.requires.label _ (c.in-Ok-hear.ensures.told _ _ _ w.reads) c.hear.ensures.hears c.send.ensures.rises c.hear.ensures.shows

pub returns-in-Err-clause-gives : goal.returns-in-Err-clause-gives
returns-in-Err-clause-gives g c was exchanges w = rw c.stopped_by.ensures (stops_unsent was _ exchanges _ w c.args.e.now _ c.requires.bytes _ _ _ c.in-Err.ensures.sent)
