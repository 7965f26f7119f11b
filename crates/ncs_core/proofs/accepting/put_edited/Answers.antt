use Rattle.std.proofs.Common.{List, Option, subst}
use Rattle.mos_edits.specs.Entries.{entry_of, over_send, refusal}
use Rattle.mos_edits.specs.Orders.{Order}
use Rattle.mos_edits.specs.Texts.{Text}
use Rattle.ncs_core.specs.Accepting.{applied_to, rows_over, rows_after, IsRefusal}
use Rattle.ncs_core.proofs.accepting.put_edited.Goals as goal

pub returns-in-Err-clause-fault : goal.returns-in-Err-clause-fault
returns-in-Err-clause-fault c =
    let e = entry_of c.args.edit.now in
    subst (λ (rows : List (Text × Option Order)). IsRefusal (refusal (applied_to rows e) (rows_over (rows_after rows e) e.ro (over_send e.edit))) c.in-Err.fault) c.orders.view_is
    (c.in-Err.ensures.fault (rows_over (rows_after c.orders.inside.table e) e.ro (over_send e.edit)))
