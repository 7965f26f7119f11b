use Rattle.std.proofs.Common.{sym, ap, ◌∙◌}
use Rattle.order_table.specs.Rows.{value_or}
use Rattle.order_table.proofs.Looked.{look-found}
use Rattle.state_listing.proofs.device.applied_in.Goals as goal

pub returns-in-Some : goal.returns-in-Some
returns-in-Some c = sym (look-found 0 c.args.ro.now c.args.applied.now ∙ ap (value_or 0) (sym c.in-Some.ensures))

pub returns-in-None : goal.returns-in-None
returns-in-None c = sym (look-found 0 c.args.ro.now c.args.applied.now ∙ ap (value_or 0) (sym c.in-None.ensures))
