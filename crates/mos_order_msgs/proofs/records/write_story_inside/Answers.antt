use Rattle.std.proofs.Common.{◌≡◌, ◌++◌, sym, ap, ◌∙◌}
use Rattle.mos_values.specs.Views.{story_head_events, items_events, story_events}
use Rattle.mos_values.proofs.Counts.{story_is}
use Rattle.mos_writer.proofs.EncodedLemmas.{both_written, joined_events}
use Rattle.mos_order_msgs.proofs.records.write_story_inside.Goals as goal

pub returns : goal.returns
returns c =
    let same : c.as_slice.result.now ≡ c.args.story.now.items = c.as_slice.ensures ∙ ap (λ s. s.items) c.story.view_is in
    both_written _ _ (story_events c.args.story.now) c.args.out.now.items _ _ (story_is c.args.story.now ∙ sym (joined_events c.story_head_pieces.ensures (ap items_events same))) c.in_ok-write_pieces.ensures c.in_ok-write_items.ensures
