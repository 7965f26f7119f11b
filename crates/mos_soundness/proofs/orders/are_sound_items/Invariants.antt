use Rattle.mos_values.specs.Sound.{IsSoundItem}
use Rattle.mos_soundness.proofs.Walks.{GoesOn}
use Rattle.mos_soundness.proofs.orders.are_sound_items.Given as goal

abbrev pub invariant-loop-item : goal.invariant-loop-item
invariant-loop-item l = GoesOn IsSoundItem l.item-index l.items
