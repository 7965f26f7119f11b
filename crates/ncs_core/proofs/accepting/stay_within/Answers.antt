use Rattle.std.proofs.Common.{List, Option, subst}
use Rattle.mos_edits.specs.Entries.{refusal}
use Rattle.mos_edits.specs.KeyedLists.Applied.{Done}
use Rattle.mos_edits.specs.Orders.{Order}
use Rattle.mos_edits.specs.Texts.{Text}
use Rattle.ncs_core.specs.Accepting.{rows_over, IsRefusal}
use Rattle.ncs_core.proofs.accepting.stay_within.Goals as goal

pub returns-in-Err-clause-full : goal.returns-in-Err-clause-full
returns-in-Err-clause-full c =
    λ order. subst (λ (rows : List (Text × Option Order)). IsRefusal (refusal (Done order) (rows_over rows c.args.ro.now c.args.next)) c.in-Err.fault) c.orders.view_is (c.in-Err.ensures.full order)
