use Rattle.std.proofs.Common.{◌≡◌, sym, ap, ◌∙◌}
use Rattle.mos_values.specs.Pieces.{pieces_events}
use Rattle.mos_values.specs.Units.{capped, units_in}
use Rattle.mos_values.specs.Views.{story_head_events, items_events, story_events}
use Rattle.mos_values.proofs.Counts.{count_both, story_is}
use Rattle.mos_values.proofs.sizes.story_inside.Goals as goal

pub returns : goal.returns
returns c =
    let head = c.pieces_units.ensures ∙ ap (λ es. capped (units_in es)) c.story_head_pieces.ensures in
    let same : c.as_slice.result.now ≡ c.args.story.now.items = c.as_slice.ensures ∙ ap (λ s. s.items) c.story.view_is in
    let items = c.items_units.ensures ∙ ap (λ is. capped (units_in (items_events is))) same in
    count_both (story_head_events c.args.story.now) (items_events c.args.story.now.items) (story_events c.args.story.now) c.pieces_units.result c.items_units.result c.plus.result head items c.plus.ensures (story_is c.args.story.now)
