use Rattle.value_laws.specs.Ranges.{IsItemInRange}
use Rattle.value_laws.proofs.RangeLemmas.{all_step}
use Rattle.value_laws.proofs.ranges.items_are_in_range.Goals as goal

pub loop-item-init : goal.loop-item-init
loop-item-init c = tt

pub loop-item-preserved : goal.loop-item-preserved
loop-item-preserved c = all_step IsItemInRange c.args.items.now c.loop-item.item-index c.item-item.result c.loop-item-test.true c.item-item.is c.loop-item.invariant c.item_is_in_range.ensures
