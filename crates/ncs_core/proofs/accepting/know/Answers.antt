use Rattle.std.proofs.Common.{None, sym}
use Rattle.ncs_core.proofs.AcceptedRows.{row-there, rows-known, same-known, no-order, on-ok}
use Rattle.ncs_core.proofs.KeptUnits.{known-units}
use Rattle.ncs_core.proofs.accepting.know.Goals as goal

pub returns-in-None-clause-there : goal.returns-in-None-clause-there
returns-in-None-clause-there c = on-ok c.put.result c.put.ensures.ok (λ e. row-there c.args.orders.now c.put.new.self c.args.ro.now None e)

pub returns-in-None-clause-rows : goal.returns-in-None-clause-rows
returns-in-None-clause-rows c = on-ok c.put.result c.put.ensures.ok (λ e. rows-known c.args.ro.now c.args.orders.now c.put.new.self e)

pub returns-in-None-clause-same : goal.returns-in-None-clause-same
returns-in-None-clause-same c = same-known c.put.result c.args.ro.now c.args.orders.now c.put.new.self c.put.ensures.ok c.put.ensures.err (no-order c.args.orders.now c.args.ro.now (sym c.in-None.ensures))

pub returns-in-None-clause-units : goal.returns-in-None-clause-units
returns-in-None-clause-units c = known-units c.put.result c.args.ro.now c.args.orders.now c.put.new.self c.has_ascending_ids.ensures c.put.ensures.ok c.put.ensures.err (no-order c.args.orders.now c.args.ro.now (sym c.in-None.ensures))
