use Rattle.message_runs.proofs.Givings.{stops_first}
use Rattle.message_runs.proofs.giving.give.Goals as goal

pub returns-in-Err-clause-gives : goal.returns-in-Err-clause-gives
returns-in-Err-clause-gives g c was exchanges w = stops_first was _ exchanges _ w c.args.e.now
