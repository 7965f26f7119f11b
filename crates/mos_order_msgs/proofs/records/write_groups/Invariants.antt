use Rattle.std.proofs.Common.{◌≡◌, ◌++◌, take}
use Rattle.mos_values.specs.Views.{groups_events}
use Rattle.mos_writer.specs.Encoded.{encoded}
use Rattle.mos_order_msgs.proofs.records.write_groups.Given as goal

abbrev pub invariant-loop-group : goal.invariant-loop-group
invariant-loop-group l = l.out.items ≡ l.initial.out.items ++ encoded (groups_events (take l.group-index l.groups))
