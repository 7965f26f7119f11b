use Rattle.value_laws.specs.Ranges.{IsStoryInRange}
use Rattle.value_laws.proofs.RangeLemmas.{all_step}
use Rattle.value_laws.proofs.ranges.stories_are_in_range.Goals as goal

pub loop-story-init : goal.loop-story-init
loop-story-init c = tt

pub loop-story-preserved : goal.loop-story-preserved
loop-story-preserved c = all_step IsStoryInRange c.args.stories.now c.loop-story.story-index c.story-item.result c.loop-story-test.true c.story-item.is c.loop-story.invariant c.story_is_in_range.ensures
