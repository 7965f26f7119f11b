use Rattle.mos_values.proofs.Counts.{no_stories, stories_step}
use Rattle.mos_values.proofs.sizes.stories_units.Goals as goal

pub loop-story-init : goal.loop-story-init
loop-story-init c = no_stories

pub loop-story-preserved : goal.loop-story-preserved
loop-story-preserved c = stories_step c.args.stories.now c.loop-story.story-index c.story-item.result c.loop-story.count c.story_units.result c.plus-count.result c.loop-story-test.true c.story-item.is c.loop-story.invariant c.story_units.ensures c.plus-count.ensures
