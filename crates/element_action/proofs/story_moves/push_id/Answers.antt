use Rattle.std.proofs.Common.{◌≡◌, ◌++◌, ◌∷◌, [], Some, slice_get, sym, ap, ◌∙◌}
use Rattle.std.specs.Option.{option_copied}
use Rattle.mos_edits.specs.Orders.{Story, shape}
use Rattle.running_order.proofs.Lists.{OnOk-map}
use Rattle.element_action.proofs.GatherLemmas.{id_here}
use Rattle.element_action.proofs.story_moves.push_id.Goals as goal

pub returns : goal.returns
returns c =
    let ss = c.args.order.now.stories in
    let s = c.in-Some.story.now in
    let at : slice_get ss c.args.i ≡ Some s = sym c.story.ensures ∙ ap (λ o. option_copied o) c.in-Some.is in
    let id = c.from_id.ensures ∙ c.in_ok-try_clone-in-Some.ensures ∙ ap (λ (x : Story). x.id) c.story-in-Some.view_is in
    OnOk-map c.push.result (λ e. id_here shape.story_id ss c.args.i s c.args.ids.now c.push.new.self at (e ∙ ap (λ u. c.args.ids.now ++ u ∷ []) id)) c.push.ensures.ok
