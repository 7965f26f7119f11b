use Rattle.value_facts.specs.FitValues.{IsFitObject}
use Rattle.value_facts.proofs.Loops.{all_step}
use Rattle.value_facts.proofs.messages.objects_fit.Goals as goal

pub loop-object-init : goal.loop-object-init
loop-object-init c = tt

pub loop-object-preserved : goal.loop-object-preserved
loop-object-preserved c = all_step IsFitObject c.args.objects.now c.loop-object.object-index c.object-item.result c.loop-object-test.true c.object-item.is c.loop-object.invariant c.object_fits.ensures
