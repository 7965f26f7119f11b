use Rattle.std.proofs.Common.{take}
use Rattle.mos_fields.specs.declared.form.Form.TheVariants as forms
use Rattle.value_facts.specs.FitValues.{AreTexts}
use Rattle.value_facts.proofs.texts.opt_ids_fit.Given as goal

abbrev pub invariant-loop-id : goal.invariant-loop-id
invariant-loop-id l = AreTexts forms.OptId (take l.id-index l.list)
