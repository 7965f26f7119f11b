use Rattle.value_facts.specs.FitValues.{IsFitGroup}
use Rattle.value_facts.proofs.Loops.{all_step}
use Rattle.value_facts.proofs.orders.groups_fit.Goals as goal

pub loop-group-init : goal.loop-group-init
loop-group-init c = tt

pub loop-group-preserved : goal.loop-group-preserved
loop-group-preserved c = all_step IsFitGroup c.args.groups.now c.loop-group.group-index c.group-item.result c.loop-group-test.true c.group-item.is c.loop-group.invariant c.group_fits.ensures
