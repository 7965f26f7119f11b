use Rattle.std.proofs.Common.{arith}
use Rattle.std.specs.Fmt.{decimal}
use Rattle.mos_values.proofs.Counts.{count_simple}
use Rattle.mos_values.proofs.Simple.{simple_decimal}
use Rattle.mos_values.proofs.units.number_units.Goals as goal

pub returns : goal.returns
returns c = count_simple c.args.field (decimal c.args.n) c.tags_units.result c.decimal_len.result c.plus.result (simple_decimal c.args.n (omega arith)) c.tags_units.ensures c.decimal_len.ensures.count c.plus.ensures
