use Rattle.std.proofs.Common.{None, sym, ap, ◌∙◌}
use Rattle.order_table.specs.Rows.{value_or}
use Rattle.order_table.proofs.Looked.{look-found}
use Rattle.ncs_core.proofs.orders.order_in.Goals as goal

pub returns-in-Some : goal.returns-in-Some
returns-in-Some c = c.as_ref.ensures.value ∙ sym (look-found None c.args.ro.now c.args.orders.now ∙ ap (value_or None) (sym c.in-Some.ensures))

pub returns-in-None : goal.returns-in-None
returns-in-None c = sym (look-found None c.args.ro.now c.args.orders.now ∙ ap (value_or None) (sym c.in-None.ensures))
