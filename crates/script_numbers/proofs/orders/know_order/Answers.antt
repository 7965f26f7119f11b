use Rattle.std.proofs.Common.{[], sym}
use Rattle.script_numbers.proofs.RowLemmas.{same-after, there-after}
use Rattle.script_numbers.proofs.orders.know_order.Goals as goal

pub returns-in-None-clause-there : goal.returns-in-None-clause-there
returns-in-None-clause-there c = there-after c.put.result c.args.ro.now c.new.result c.args.orders.now c.put.new.self c.put.ensures.ok

pub returns-in-None-clause-same : goal.returns-in-None-clause-same
returns-in-None-clause-same c = same-after c.put.result [] c.args.ro.now c.new.result c.args.orders.now c.put.new.self c.new.ensures c.put.ensures.ok c.put.ensures.err (sym c.in-None.ensures)
