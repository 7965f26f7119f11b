use Rattle.std.proofs.Common.{IsSome, sym, subst}
use Rattle.order_table.specs.Rows.{find_row}
use Rattle.server_peer.proofs.ViewRows.{look-none, some-put, on-ok, known-same, known-kept}
use Rattle.server_peer.proofs.views.know.Goals as goal

pub returns-in-None-clause-there : goal.returns-in-None-clause-there
returns-in-None-clause-there c = on-ok c.put.result c.put.ensures.ok (λ e. subst (λ rows. IsSome (find_row c.args.ro.now rows)) (sym e) (some-put c.args.ro.now c.out.result c.args.views.now))

pub returns-in-None-clause-same : goal.returns-in-None-clause-same
returns-in-None-clause-same c = known-same c.put.result c.args.ro.now c.out.result c.args.views.now _ c.out.ensures c.put.ensures.ok c.put.ensures.err (look-none c.args.ro.now c.args.views.now (sym c.in-None.ensures))

pub returns-in-None-clause-kept : goal.returns-in-None-clause-kept
returns-in-None-clause-kept c = known-kept c.put.result c.args.ro.now c.out.result c.args.views.now _ c.put.ensures.ok c.put.ensures.err
