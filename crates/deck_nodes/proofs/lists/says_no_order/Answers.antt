use Rattle.std.proofs.Common.{ap, ◌∙◌}
use Rattle.std.specs.Str.{bytes_eq}
use Rattle.gateway_core.specs.Gots.{says_no_order}
use Rattle.gateway_core.proofs.StatusTexts.{no-order}
use Rattle.deck_nodes.proofs.lists.says_no_order.Goals as goal

pub returns : goal.returns
returns c =
    c.eq.ensures
    ∙ ((λ i. bytes_eq (c.units.ensures.value i) (c.as_slice.ensures i))
    ∙ (no-order c.text.result.now c.units.ensures.allowed ∙ ap says_no_order c.text.ensures.value))
