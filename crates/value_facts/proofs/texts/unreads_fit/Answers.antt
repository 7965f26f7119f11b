use Rattle.mos_fields.specs.declared.form.Form.TheVariants as forms
use Rattle.value_facts.specs.FitValues.{IsText}
use Rattle.value_facts.proofs.Loops.{all_step}
use Rattle.value_facts.proofs.texts.unreads_fit.Goals as goal

pub loop-raw-init : goal.loop-raw-init
loop-raw-init c = tt

pub loop-raw-preserved : goal.loop-raw-preserved
loop-raw-preserved c = all_step (IsText forms.Text) c.args.list.now c.loop-raw.raw-index c.raw-item.result c.loop-raw-test.true c.raw-item.is c.loop-raw.invariant c.unread_fits.ensures
