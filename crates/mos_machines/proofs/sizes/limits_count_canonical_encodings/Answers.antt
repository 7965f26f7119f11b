use Rattle.mos_machines.proofs.SizeLemmas.{order-units, orders-units, script-units}
use Rattle.mos_machines.proofs.sizes.limits_count_canonical_encodings.Goals as goal

pub returns-clause-order : goal.returns-clause-order
returns-clause-order c = order-units

pub returns-clause-orders : goal.returns-clause-orders
returns-clause-orders c = orders-units

pub returns-clause-script : goal.returns-clause-script
returns-clause-script c = script-units
