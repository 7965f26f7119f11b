use Rattle.mos_fields.specs.declared.form.Form.TheVariants as forms
use Rattle.value_facts.specs.FitValues.{IsText}
use Rattle.value_facts.proofs.Loops.{all_step}
use Rattle.value_facts.proofs.texts.opt_ids_fit.Goals as goal

pub loop-id-init : goal.loop-id-init
loop-id-init c = tt

pub loop-id-preserved : goal.loop-id-preserved
loop-id-preserved c = all_step (IsText forms.OptId) c.args.list.now c.loop-id.id-index c.id-item.result c.loop-id-test.true c.id-item.is c.loop-id.invariant c.opt_id_fits.ensures
