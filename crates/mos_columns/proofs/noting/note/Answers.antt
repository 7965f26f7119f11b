use Rattle.std.proofs.Common.{◌∙◌}
use Rattle.mos_columns.proofs.CountLaws.{noted_is}
use Rattle.mos_columns.proofs.noting.note.Goals as goal

pub returns : goal.returns
returns c seen e = c.noted.ensures ∙ noted_is c.args.table c.args.counts.now seen c.args.field e
