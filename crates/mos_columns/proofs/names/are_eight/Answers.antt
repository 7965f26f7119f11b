use Rattle.mos_columns.proofs.NamePlaces.{compared_step}
use Rattle.mos_columns.proofs.names.are_eight.Goals as goal

pub loop-k-preserved : goal.loop-k-preserved
loop-k-preserved c = compared_step c.args.name.now c.args.units.now c.args.from c.loop-k.k c.from.result c.loop-k.differ c.from.ensures c.loop-k.invariant
