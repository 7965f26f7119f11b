use Rattle.std.proofs.Common.{◌≡◌, take}
use Rattle.mos_values.specs.Distinct.{item_ids}
use Rattle.element_action.proofs.sources.ids_of_items.Given as goal

abbrev pub invariant-loop-item : goal.invariant-loop-item
invariant-loop-item l = l.ids ≡ item_ids (take l.item-index l.items)
