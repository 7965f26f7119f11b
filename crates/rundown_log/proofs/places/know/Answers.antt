use Rattle.std.proofs.Common.{IsSome, sym, ◌∙◌, subst}
use Rattle.order_table.specs.Rows.{find_row}
use Rattle.rundown_log.proofs.PlaceRows.{look-none, some-put, on-ok, same-after}
use Rattle.rundown_log.proofs.places.know.Goals as goal

pub returns-in-None-clause-there : goal.returns-in-None-clause-there
returns-in-None-clause-there c = on-ok c.put.result c.put.ensures.ok (λ e. subst (λ rows. IsSome (find_row c.args.ro.now rows)) (sym e) (some-put c.args.ro.now c.new.result c.args.places.now))

pub returns-in-None-clause-same : goal.returns-in-None-clause-same
returns-in-None-clause-same c = same-after c.put.result c.args.ro.now c.new.result c.args.places.now _ c.put.ensures.ok c.put.ensures.err (look-none c.args.ro.now c.args.places.now (sym c.in-None.ensures) ∙ sym c.new.ensures)
