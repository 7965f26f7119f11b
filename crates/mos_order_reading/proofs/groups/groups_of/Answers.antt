use Rattle.std.proofs.Common.{List, subst, sym}
use Rattle.mos_values.specs.declared.ack_group.AckGroup.{AckGroup}
use Rattle.mos_order_reading.proofs.Loops.{GroupsSoFar, groups_more}
use Rattle.mos_order_reading.proofs.groups.groups_of.Goals as goal

pub next-preserved : goal.next-preserved
next-preserved c = subst (λ (gs : List AckGroup). GroupsSoFar c.args.cursor gs c.take_group.new.cursor) (sym c.in_ok-push.ensures.ok)
    (groups_more _ _ _ _ _ c.next.invariant c.take_group.ensures.events c.take_group.ensures.groups)
