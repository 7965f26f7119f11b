use Rattle.std.proofs.Common.{◌≡◌, take}
use Rattle.mos_values.specs.Distinct.{item_ids}
use Rattle.running_order.proofs.story_entry.table_of.Given as goal

abbrev pub invariant-loop-item : goal.invariant-loop-item
invariant-loop-item l = l.table ≡ item_ids ((take l.item-index l.items))
