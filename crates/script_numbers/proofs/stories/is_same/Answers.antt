use Rattle.std.proofs.Common.{◌∙◌}
use Rattle.std.proofs.lemmas.Bool.Decides.{same_from_decides}
use Rattle.mos_edits.specs.Texts.{same_id}
use Rattle.mos_edits.proofs.Identifiers.{same-Decides}
use Rattle.script_numbers.proofs.stories.is_same.Goals as goal

pub returns : goal.returns
returns c =
    same_from_decides c.is.result (same_id c.text.result.now c.text-2.result.now) c.is.ensures (same-Decides c.text.result.now c.text-2.result.now)
    ∙ (λ i. same_id (c.text.ensures.value i) (c.text-2.ensures.value i))
