use Rattle.std.proofs.Common.{ap, ◌∙◌}
use Rattle.std.proofs.lemmas.Bool.Decides.{same_from_decides}
use Rattle.mos_edits.specs.Texts.{same_id}
use Rattle.mos_edits.proofs.Identifiers.{same-Decides}
use Rattle.order_table.proofs.place.is_text_of.Goals as goal

pub returns : goal.returns
returns c =
    same_from_decides c.is.result (same_id c.args.a.now c.text.result.now) c.is.ensures (same-Decides c.args.a.now c.text.result.now)
    ∙ ap (λ b. same_id c.args.a.now b) c.text.ensures.value
