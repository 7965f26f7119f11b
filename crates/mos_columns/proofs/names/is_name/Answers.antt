use Rattle.mos_columns.proofs.Lengths.{long_is}
use Rattle.mos_columns.proofs.names.is_name.Goals as goal

pub returns-else-name-units : goal.returns-else-name-units
returns-else-name-units c = long_is c.args.name.now c.args.units.now c.if-name-units.false
