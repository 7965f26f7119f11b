use Rattle.std.proofs.Common.{codes, ap, ◌∙◌}
use Rattle.std.specs.Str.{bytes_eq}
use Rattle.mos_edits.specs.Texts.{same_id}
use Rattle.server_peer.proofs.StatusTexts.{deck-text}
use Rattle.server_peer.proofs.statuses.is_no_deck.Goals as goal

pub returns : goal.returns
returns c =
    c.eq.ensures
    ∙ ((λ i. bytes_eq (c.units.ensures.value i) (c.as_slice.ensures i))
    ∙ (deck-text c.text.result.now c.units.ensures.allowed ∙ ap (λ t. same_id t (codes "NO DECK")) c.text.ensures.value))
