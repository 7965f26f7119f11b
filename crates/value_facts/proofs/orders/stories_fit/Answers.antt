use Rattle.value_facts.specs.FitValues.{IsFitStory}
use Rattle.value_facts.proofs.Loops.{all_step}
use Rattle.value_facts.proofs.orders.stories_fit.Goals as goal

pub loop-story-init : goal.loop-story-init
loop-story-init c = tt

pub loop-story-preserved : goal.loop-story-preserved
loop-story-preserved c = all_step IsFitStory c.args.stories.now c.loop-story.story-index c.story-item.result c.loop-story-test.true c.story-item.is c.loop-story.invariant c.story_fits.ensures
