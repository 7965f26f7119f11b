use Rattle.std.proofs.Common.{◌∙◌}
use Rattle.mos_columns.proofs.CountLaws.{end_fault_is}
use Rattle.mos_columns.proofs.counts.find_end_fault.Goals as goal

pub returns : goal.returns
returns c seen e = c.end_fault.ensures ∙ end_fault_is c.args.table c.args.counts.now seen e
