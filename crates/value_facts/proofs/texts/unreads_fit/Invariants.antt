use Rattle.std.proofs.Common.{take}
use Rattle.mos_fields.specs.declared.form.Form.TheVariants as forms
use Rattle.value_facts.specs.FitValues.{AreTexts}
use Rattle.value_facts.proofs.texts.unreads_fit.Given as goal

abbrev pub invariant-loop-raw : goal.invariant-loop-raw
invariant-loop-raw l = AreTexts forms.Text (take l.raw-index l.list)
