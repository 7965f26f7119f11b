use Rattle.value_facts.specs.FitValues.{IsFitItem}
use Rattle.value_facts.proofs.Loops.{all_step}
use Rattle.value_facts.proofs.orders.items_fit.Goals as goal

pub loop-item-init : goal.loop-item-init
loop-item-init c = tt

pub loop-item-preserved : goal.loop-item-preserved
loop-item-preserved c = all_step IsFitItem c.args.items.now c.loop-item.item-index c.item-item.result c.loop-item-test.true c.item-item.is c.loop-item.invariant c.item_fits.ensures
