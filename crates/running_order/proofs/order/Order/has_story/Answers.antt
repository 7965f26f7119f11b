use Rattle.std.proofs.Common.{ap, ◌∙◌}
use Rattle.std.specs.Option.{is_some}
use Rattle.mos_edits.specs.Orders.{Order}
use Rattle.mos_edits.specs.Texts.{has_id}
use Rattle.mos_values.specs.Distinct.{story_ids}
use Rattle.running_order.specs.Places.{place_of}
use Rattle.running_order.proofs.Scripts.{place-has}
use Rattle.running_order.proofs.order.Order.has_story.Goals as goal

pub returns : goal.returns
returns c =
    let ss = c.self.inside.stories in
    let at = c.place.ensures.place ∙ ap (λ t. place_of t (story_ids ss)) c.text.ensures.value in
    c.is_some.ensures ∙ ap is_some at ∙ place-has c.args.id.now (story_ids ss) ∙ ap (λ (o : Order). has_id c.args.id.now (story_ids o.stories)) c.self.view_is
