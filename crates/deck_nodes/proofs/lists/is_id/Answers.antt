use Rattle.std.proofs.Common.{◌∙◌}
use Rattle.std.proofs.lemmas.Bool.Decides.{same_from_decides}
use Rattle.mos_edits.specs.Texts.{same_id}
use Rattle.mos_edits.proofs.Identifiers.{same-Decides}
use Rattle.deck_nodes.proofs.lists.is_id.Goals as goal

pub returns : goal.returns
returns c =
    let a = c.text.result.now in
    let b = c.text-2.result.now in
    same_from_decides c.is.result (same_id a b) c.is.ensures (same-Decides a b) ∙ (λ i. same_id (c.text.ensures.value i) (c.text-2.ensures.value i))
