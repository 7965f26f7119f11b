use Rattle.std.proofs.Common.{ap, ◌∙◌}
use Rattle.std.specs.Option.{is_some}
use Rattle.mos_edits.specs.Texts.{has_id}
use Rattle.running_order.proofs.Scripts.{place-has}
use Rattle.element_action.proofs.seen.is_seen.Goals as goal

pub returns : goal.returns
returns c = c.is_some.ensures ∙ ap (λ o. is_some o) c.place.ensures.place ∙ place-has c.text.result.now c.args.seen.now ∙ ap (λ t. has_id t c.args.seen.now) c.text.ensures.value
