use Rattle.std.proofs.Common.{◌∙◌}
use Rattle.deck_rack.proofs.Stories.{story-step}
use Rattle.deck_rack.proofs.plays.push_stories.Goals as goal

pub stories-preserved : goal.stories-preserved
stories-preserved c = story-step c.args.mos.now c.args.order.now.stories c.stories.place c.story_at.result.now c.stories.list.items c.push_items.new.list.items c.story_at.ensures c.in_ok-push_items.ensures ∙ c.stories.invariant
