use Rattle.value_facts.specs.FitValues.{IsFitPatch}
use Rattle.value_facts.proofs.Loops.{all_step}
use Rattle.value_facts.proofs.orders.patches_fit.Goals as goal

pub loop-patch-init : goal.loop-patch-init
loop-patch-init c = tt

pub loop-patch-preserved : goal.loop-patch-preserved
loop-patch-preserved c = all_step IsFitPatch c.args.patches.now c.loop-patch.patch-index c.patch-item.result c.loop-patch-test.true c.patch-item.is c.loop-patch.invariant c.patch_fits.ensures
