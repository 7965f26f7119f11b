use Rattle.mos_values.proofs.Counts.{no_items, items_step}
use Rattle.mos_values.proofs.sizes.items_units.Goals as goal

pub loop-item-init : goal.loop-item-init
loop-item-init c = no_items

pub loop-item-preserved : goal.loop-item-preserved
loop-item-preserved c = items_step c.args.items.now c.loop-item.item-index c.item-item.result c.loop-item.count c.item_units.result c.plus-count.result c.loop-item-test.true c.item-item.is c.loop-item.invariant c.item_units.ensures c.plus-count.ensures
