use Rattle.mos_values.proofs.Counts.{length_one, length_step, length_few}
use Rattle.mos_values.proofs.units.+decimal_len.Goals as goal

pub returns-then-n-lt10-clause-count : goal.returns-then-n-lt10-clause-count
returns-then-n-lt10-clause-count t c = length_one c.args.n c.if-n-lt10.true

pub returns-else-n-lt10-clause-count : goal.returns-else-n-lt10-clause-count
returns-else-n-lt10-clause-count t c = length_step c.args.n c.decimal_len.result c.if-n-lt10.false c.ranges.n.fits c.decimal_len.ensures.count

pub returns-else-n-lt10-clause-few : goal.returns-else-n-lt10-clause-few
returns-else-n-lt10-clause-few t c = length_few c.args.n c.decimal_len.result c.if-n-lt10.false c.ranges.n.fits c.decimal_len.ensures.count
