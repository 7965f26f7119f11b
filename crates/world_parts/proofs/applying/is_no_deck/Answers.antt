use Rattle.std.proofs.Common.{refl, ap, ◌∙◌}
use Rattle.std.specs.Str.{bytes_eq}
use Rattle.mos_edits.specs.Texts.{same_id}
use Rattle.mos_machines.specs.Messages.{Status, status_text}
use Rattle.world_parts.proofs.ReadSteps.{units-text}
use Rattle.world_parts.proofs.applying.is_no_deck.Goals as goal

pub returns : goal.returns
returns c =
    c.eq.ensures
    ∙ ((λ i. bytes_eq (c.units.ensures.value i) (c.as_slice.ensures i))
    ∙ (units-text c.text.result.now (status_text Status.NoDeck) c.units.ensures.allowed refl ∙ ap (λ t. same_id t (status_text Status.NoDeck)) c.text.ensures.value))
