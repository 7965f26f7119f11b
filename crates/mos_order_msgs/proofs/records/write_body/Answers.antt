use Rattle.std.proofs.Common.{◌≡◌, ◌++◌, sym, ap, ◌∙◌}
use Rattle.mos_values.specs.Views.{header_events, stories_events, body_events}
use Rattle.mos_values.proofs.Counts.{body_is}
use Rattle.mos_writer.proofs.EncodedLemmas.{both_written, joined_events}
use Rattle.mos_order_msgs.proofs.records.write_body.Goals as goal

pub returns : goal.returns
returns c =
    let same : c.as_slice.result.now ≡ c.args.b.now.stories = c.as_slice.ensures ∙ ap (λ b. b.stories) c.b.view_is in
    let head = c.header_pieces.ensures ∙ ap (λ b. header_events b.header) c.b.view_is in
    both_written _ _ (body_events c.args.b.now) c.args.out.now.items _ _ (body_is c.args.b.now ∙ sym (joined_events head (ap stories_events same))) c.in_ok-write_pieces.ensures c.in_ok-write_stories.ensures
