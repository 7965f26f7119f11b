use Rattle.std.proofs.Common.{take}
use Rattle.std.specs.List.{Contains}
use Rattle.mos_values.specs.Distinct.{item_ids}
use Rattle.mos_values.proofs.ids.is_item_among.Given as goal

abbrev pub invariant-loop-item : goal.invariant-loop-item
invariant-loop-item l = Contains (item_ids (take l.item-index l.items)) l.id → ⊥
