use Rattle.std.proofs.Common.{◌≡◌, ◌++◌, take}
use Rattle.mos_values.specs.Views.{items_events}
use Rattle.mos_writer.specs.Encoded.{encoded}
use Rattle.mos_order_msgs.proofs.records.write_items.Given as goal

abbrev pub invariant-loop-item : goal.invariant-loop-item
invariant-loop-item l = l.out.items ≡ l.initial.out.items ++ encoded (items_events (take l.item-index l.items))
