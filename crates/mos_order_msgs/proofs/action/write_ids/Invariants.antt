use Rattle.std.proofs.Common.{◌≡◌, ◌++◌, take}
use Rattle.mos_values.specs.MessageViews.{ids_events}
use Rattle.mos_writer.specs.Encoded.{encoded}
use Rattle.mos_order_msgs.proofs.action.write_ids.Given as goal

abbrev pub invariant-loop-id : goal.invariant-loop-id
invariant-loop-id l = l.out.items ≡ l.initial.out.items ++ encoded (ids_events l.fn.field (take l.id-index l.id-items))
